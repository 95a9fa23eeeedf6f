-- What an image stands for, by what its log says.
use Rattle.std.proofs.Common.{◌≡◌, ℕ, ◌+◌, ◌<◌, ◌≤◌, ◌^◌, true, false, List, [], ◌∷◌, ◌++◌, length, Option, Some, None, refl, sym, ap, ◌∙◌, subst, inl, inr, ◌⊎◌, arith}
use Rattle.std.specs.Prelude.{◌&&◌, ◌==◌, is_none, slice_get}
use Rattle.std.proofs.lemmas.List.{length_push, take-append-le, take_all}
use Rattle.chain_defs.specs.Schema.{Block}
use Rattle.outside.specs.declared.disk.Area.{Area}
use Rattle.outside.specs.declared.disk.Area.TheVariants.{SnapA, SnapB}
use Rattle.chain_defs.proofs.KeptLaws.{slice_get-pushed}
use Rattle.chain_defs.specs.Specification.{Specification, specification_of, with_edition}
use Rattle.verdict_defs.specs.Verdict.{kept_after}
use Rattle.chain_defs.specs.Kept.{kept_limit, blocks_of_item}
use Rattle.verdict_defs.specs.Chain.{Chain, chain_of_genesis, chain_after}
use Rattle.verdict_defs.specs.Laws.{CanJoin}
use Rattle.verdict_defs.proofs.VerdictLaws.{keeps-what-joins}
use Rattle.rule_defs.specs.Genesis.{broken_genesis_rule}
use Rattle.disk_defs.specs.Log.{Record, LogContent, record_limit, content_of_records, are_first, block_of_record, is_of_edition, of_blocks, specification_in}
use Rattle.disk_defs.specs.LogLaws.{grown}
use Rattle.store_defs.specs.JoinLaws.{record_over}
use Rattle.store_defs.specs.Store.{HasJoined, EachHasJoined, chain_of, chain_before, ext_over}
use Rattle.store_defs.specs.StoreLaws.{StandsAsItSays, StandsAfterAnItem, StandsForTheGenesis}
use Rattle.disk_defs.proofs.Contents.{counts_its_records, gives_the_parts, says_its_records, says_by_parts, adds_a_block, editions_are_kept, blocks_of_more}
use Rattle.disk_defs.specs.Snapshot.{has_open_gate, IsSoundArea}
use Rattle.store_defs.proofs.Joining.{takes_what_joins}
use Rattle.disk_defs.proofs.AreaLaws.{closed-is-sound}
use Rattle.store_defs.proofs.SnapshotLemmas.{stays_sound_after_an_item}

pub stands_as_it_says : StandsAsItSays
stands_as_it_says chain image bytes stands same = record {
  log = stands.log;
  is_log = same ∙ stands.is_log;
  keeps = stands.keeps;
  joined = stands.joined;
  snap_a = stands.snap_a;
  snap_b = stands.snap_b;
}

-- ---- Room

-- where one more block may be kept, one more record may stand
below_limit : (count : ℕ) → count + 1 < kept_limit → count < record_limit
unfolding kept_limit record_limit
below_limit count below = omega (arith, below)

-- ---- One more block

-- the specification is the same, with its edition
same_spec : (log : LogContent) (r : Record) (b : Block) → is_of_edition r ≡ false → specification_in log ≡ specification_in (grown log r b)
same_spec log r b other =
    ap (λ (edition : Option ℕ). with_edition edition (specification_of log.specification)) (sym ((editions_are_kept log.records r).same other))

-- the chain of the first blocks is the same
same_before : (log : LogContent) (r : Record) (b : Block) (count : ℕ) → is_of_edition r ≡ false → count ≤ length log.blocks
    → chain_before log count ≡ chain_before (grown log r b) count
same_before log r b count other le =
    λ i. record { spec = same_spec log r b other i; blocks = sym (take-append-le count log.blocks (b ∷ []) le) i }

-- that of all is the log's
all_before : (log : LogContent) (count : ℕ) → length log.blocks ≤ count → chain_of log ≡ chain_before log count
all_before log count le =
    ap (λ (blocks : List Block). record { spec = specification_in log; blocks = blocks }) (sym (take_all count log.blocks le))

module _ (chain : Chain) (item : List ℕ) (log : LogContent) (keeps : chain_of log ≡ chain) (can : CanJoin chain.spec chain.blocks item)
    (count : length log.blocks ≡ length (of_blocks log.records) + 1) (short : length item < 2 ^ 31) where
  abbrev pub r : Record
  r = record_over chain item

  abbrev pub b : Block
  b = can.block

  after : kept_after chain.spec chain.blocks item ≡ chain.blocks ++ b ∷ []
  after = ((keeps-what-joins chain.spec chain.blocks item).0 can).1

  pub keeps_after : chain_of (grown log r b) ≡ chain_after chain item
  keeps_after =
      ap (λ (spec : Specification). record { spec = spec; blocks = log.blocks ++ b ∷ [] }) (sym (same_spec log r b refl))
      ∙ ap (λ (c : Chain). record { spec = c.spec; blocks = c.blocks ++ b ∷ [] }) keeps
      ∙ ap (λ (blocks : List Block). record { spec = chain.spec; blocks = blocks }) (sym after)

  joins_here : HasJoined chain r (chain_after chain item)
  joins_here = record {
    item = item;
    parts = gives_the_parts item (ext_over chain item) (omega (arith, short));
    kept = refl;
    grown = ap length after ∙ length_push chain.blocks b;
  }

  joined_at : EachHasJoined log → (place : ℕ) (other : Record) → ((place < length (of_blocks log.records)) × (slice_get (of_blocks log.records) place ≡ Some other)) ⊎ ((place ≡ length (of_blocks log.records)) × (r ≡ other))
      → HasJoined (chain_before (grown log r b) (place + 1)) other (chain_before (grown log r b) (place + 2))
  joined_at each place other (inl before) =
      subst (λ (c : Chain). HasJoined c other (chain_before (grown log r b) (place + 2))) (same_before log r b (place + 1) refl (omega (arith, before.0, count)))
      (subst (λ (c : Chain). HasJoined (chain_before log (place + 1)) other c) (same_before log r b (place + 2) refl (omega (arith, before.0, count)))
      (each place other before.1))
  joined_at each place other (inr last) =
      let first : chain ≡ chain_before (grown log r b) (place + 1) =
      sym keeps ∙ all_before log (place + 1) (omega (arith, last.0, count)) ∙ same_before log r b (place + 1) refl (omega (arith, last.0, count)) in
      let second : chain_after chain item ≡ chain_before (grown log r b) (place + 2) =
      sym keeps_after ∙ all_before (grown log r b) (place + 2) (omega (arith, last.0, count, length_push log.blocks b)) in
      subst (λ (x : Record). HasJoined (chain_before (grown log r b) (place + 1)) x (chain_before (grown log r b) (place + 2))) last.1
      (subst (λ (c : Chain). HasJoined c r (chain_before (grown log r b) (place + 2))) first
      (subst (λ (c : Chain). HasJoined chain r c) second joins_here))

  pub each_joined_after : EachHasJoined log → EachHasJoined (grown log r b)
  each_joined_after each place other there =
      joined_at each place other (slice_get-pushed (of_blocks log.records) r place other
      (ap (λ (l : List Record). slice_get l place) (sym (blocks_of_more log.records r refl)) ∙ there))

pub stands_after_an_item : StandsAfterAnItem
stands_after_an_item chain item image bytes place next records stands can short form rest more =
    let log : LogContent = stands.log in
    let r : Record = record_over chain item in
    let says : content_of_records records ≡ Some log = sym (says_its_records place records image.log rest) ∙ stands.is_log in
    let count : length log.blocks ≡ length (of_blocks log.records) + 1 = counts_its_records records log says in
    let same : log.blocks ≡ chain.blocks = ap (λ (c : Chain). c.blocks) stands.keeps in
    let takes : block_of_record log.blocks r ≡ Some can.block =
    ap (λ (blocks : List Block). block_of_record blocks r) same ∙ takes_what_joins chain item can short form in
    let room : length (of_blocks log.records) < record_limit = below_limit (length (of_blocks log.records)) (omega (arith, count, ap length same, can.may.room)) in
    record {
      log = grown log r can.block;
      is_log = says_its_records next (records ++ r ∷ []) bytes more ∙ adds_a_block records r log can.block says takes room;
      keeps = keeps_after chain item log stands.keeps can count short;
      joined = each_joined_after chain item log stands.keeps can count short stands.joined;
      snap_a = stays_sound_after_an_item chain item SnapA image.snap_a stands.snap_a;
      snap_b = stays_sound_after_an_item chain item SnapB image.snap_b stands.snap_b;
    }

-- ---- A new log

-- a specification as its bytes have it has no edition
no_edition_yet : (bytes : List ℕ) → with_edition None (specification_of bytes) ≡ specification_of bytes
unfolding specification_of
no_edition_yet bytes = refl

pub stands_for_the_genesis : StandsForTheGenesis
stands_for_the_genesis specification genesis image place good_spec good_item rest no_a no_b =
    let empty_is_sound : (area : Area) (bytes : List ℕ) → bytes ≡ [] → IsSoundArea (chain_of_genesis specification genesis).blocks area bytes =
    λ area bytes none. closed-is-sound (chain_of_genesis specification genesis).blocks area bytes (ap has_open_gate none) in
    let one : Record = record { kind = 1; body = specification } in
    let two : Record = record { kind = 2; body = genesis } in
    let first : are_first one two ≡ true =
    ap (λ (o : Option ℕ). (1 == 1) && is_none o && (2 == 2) && is_none (broken_genesis_rule genesis)) good_spec
    ∙ ap (λ (o : Option ℕ). is_none o) good_item in
    let log : LogContent = record { specification = specification; genesis = genesis; records = []; blocks = blocks_of_item genesis } in
    let says : content_of_records (one ∷ two ∷ []) ≡ Some log = (says_by_parts (one ∷ two ∷ []) log).1 (record {
      one = one;
      two = two;
      all = refl;
      first = first;
      specification = refl;
      genesis = refl;
      room = omega arith;
      once = refl;
      over = refl;
    }) in
    record {
      log = log;
      is_log = says_its_records place (one ∷ two ∷ []) image.log rest ∙ says;
      keeps = ap (λ (spec : Specification). record { spec = spec; blocks = blocks_of_item genesis }) (no_edition_yet specification);
      joined = λ at r there. absurd (cc);
      snap_a = empty_is_sound SnapA image.snap_a no_a;
      snap_b = empty_is_sound SnapB image.snap_b no_b;
    }
