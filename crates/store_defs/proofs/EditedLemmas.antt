-- What stands under an edition that began after it.
use Rattle.std.proofs.Common.{◌≡◌, inl, inr, ℕ, ◌+◌, ◌<◌, ◌≤◌, true, List, [], ◌∷◌, ◌++◌, length, take, Option, Some, None, refl, sym, ap, ◌∙◌, subst, arith}
use Rattle.std.specs.Prelude.{slice_get, IfSome}
use Rattle.std.specs.Option.{option_and_then}
use Rattle.std.proofs.lemmas.Option.{slice_get_within, same_Some}
use Rattle.chain_defs.specs.Schema.{Block}
use Rattle.chain_defs.specs.First.{first_failing}
use Rattle.chain_defs.specs.Specification.{Specification, specification_of, with_edition}
use Rattle.chain_defs.specs.Epochs.{epoch_number}
use Rattle.chain_defs.specs.Kept.{block_at, place_of}
use Rattle.chain_defs.specs.Branch.{branch}
use Rattle.chain_defs.specs.Tip.{tip, tip_place, IsTip}
use Rattle.chain_defs.proofs.KeptLaws.{slice_get-below, slice_get-push}
use Rattle.chain_defs.proofs.TipLaws.{tips-are-tips}
use Rattle.chain_defs.specs.Ext.{ext_bytes}
use Rattle.verdict_defs.specs.Chain.{Chain}
use Rattle.verdict_defs.specs.Rules.{first_broken}
use Rattle.verdict_defs.specs.Verdict.{kept_after}
use Rattle.verdict_defs.specs.Laws.{MayJoin, CanJoin}
use Rattle.verdict_defs.proofs.VerdictLaws.{keeps-what-joins}
use Rattle.disk_defs.specs.Log.{Record, LogContent, content_of_records, of_blocks, edition_of, edition_record, specification_in, is_of_edition, epoch_in}
use Rattle.disk_defs.specs.LogLaws.{edited}
use Rattle.disk_defs.proofs.Contents.{counts_its_records, says_its_records, adds_an_edition, editions_are_kept, epoch_is_told, blocks_of_same}
use Rattle.store_defs.specs.Store.{IsJoined, HasJoined, EachHasJoined, chain_of, chain_before, first_of, own_ext, ext_on, ext_over}
use Rattle.store_defs.specs.EditionLaws.{AgreesUpTo, edited_chain, AllStandBefore, TipStandsBefore, TheTipTells, StaysJoined, StandsAfterAnEdition}
use Rattle.store_defs.proofs.JoinedLemmas.{is_kept_of_joined, item_of_record, joined_of_image}
use Rattle.store_defs.proofs.KeptLemmas.{Grows, grows}
use Rattle.store_defs.proofs.HeaderLaws.{numbers-are-heights}
use Rattle.store_defs.proofs.ExtLemmas.{ext_of_can}
use Rattle.store_defs.proofs.EditionLemmas.{judges_by_its_epoch, earlier, old_blocks_stay}

-- ---- The tip

-- a block after the genesis has a number above 0
above_zero : (chain : Chain) (place : ℕ) (b : Block) (parent : ℕ) → IsJoined chain → place < length chain.blocks
    → branch chain.blocks place ≡ branch chain.blocks parent ++ b ∷ [] → b.header.number ≡ length (branch chain.blocks parent)
above_zero chain place b parent joined within grown =
    numbers-are-heights chain place (length (branch chain.blocks parent)) b joined within
    (ap (λ (on : List Block). block_at on (length (branch chain.blocks parent))) grown ∙ slice_get-push (branch chain.blocks parent) b)

-- no block has a number above the tip's
at_most_top : (kept : List Block) (top : Block) (place : ℕ) (b : Block) → tip kept ≡ Some top → block_at kept place ≡ Some b → b.header.number ≤ top.header.number
at_most_top kept top place b is there = by_place (tip_place kept) refl is
  where
    by_place : (o : Option ℕ) → tip_place kept ≡ o → option_and_then (block_at kept) o ≡ Some top → b.header.number ≤ top.header.number
    by_place None at is = absurd (cc)
    by_place (Some p) at is =
        let its : IsTip kept p = (tips-are-tips kept p).0 at in
        let same : its.top ≡ top = same_Some its.top top (sym its.there ∙ is) in
        subst (λ (x : Block). b.header.number ≤ x.header.number) same
        (subst (λ (o : Option Block). IfSome o (λ x. x.header.number ≤ its.top.header.number)) there (its.greatest place))

pub the_tip_tells : TheTipTells
the_tip_tells chain epoch top joined is before place b above there = by_top before
  where
    most : b.header.number ≤ top.header.number
    most = at_most_top chain.blocks top place b is there

    by_top : TipStandsBefore epoch chain top → epoch_number chain.spec.epoch_length b.header.number < epoch
    by_top (inl zero) =
        let on = (is_kept_of_joined chain joined).stands place b above there in
        absurd (omega (arith, on.next, most, zero))
    by_top (inr below) = earlier chain.spec.epoch_length top.header.number b.header.number epoch most below

-- ---- A chain

-- a block that breaks no rule breaks none with another edition that tells its height the same
unbroken-stays : (spec : Specification) (edition : Option ℕ) (on : List Block) (b : Block) → AgreesUpTo (length on) edition spec → first_broken spec on b ≡ None
    → first_broken (with_edition edition spec) on b ≡ None
unfolding first_broken
unbroken-stays spec edition on b agrees unbroken = ap first_failing ((judges_by_its_epoch spec edition).rules on b agrees) ∙ unbroken

may-stay : (spec : Specification) (edition : Option ℕ) (kept : List Block) (b : Block) (may : MayJoin spec kept b) → AgreesUpTo (length (branch kept may.parent)) edition spec
    → MayJoin (with_edition edition spec) kept b
may-stay spec edition kept b may agrees = record {
  new = may.new;
  parent = may.parent;
  on_kept = may.on_kept;
  unbroken = unbroken-stays spec edition (branch kept may.parent) b agrees may.unbroken;
  room = may.room;
}

module _ (chain : Chain) (epoch : ℕ) (joined : IsJoined chain) (none : chain.spec.second_from ≡ None) (all : AllStandBefore epoch chain) where
  agrees-at : (place : ℕ) (b : Block) → 0 < place → block_at chain.blocks place ≡ Some b → (its : Grows chain place b)
      → AgreesUpTo (length (branch (take place chain.blocks) its.may.parent)) (Some epoch) chain.spec
  agrees-at place b above there its =
      let height : b.header.number ≡ length (branch (take place chain.blocks) its.may.parent) =
      above_zero chain place b its.may.parent joined (slice_get_within chain.blocks place b there) its.grown ∙ ap length (sym its.on) in
      subst (λ (h : ℕ). AgreesUpTo h (Some epoch) chain.spec) height (old_blocks_stay chain.spec epoch b.header.number none (all place b above there))

  edited-joined : IsJoined (edited_chain chain epoch)
  edited-joined = record {
    genesis = joined.genesis;
    first = joined.first;
    good = joined.good;
    each = λ place b above there.
        let its = grows chain place b joined above there in
        may-stay chain.spec (Some epoch) (take place chain.blocks) b its.may (agrees-at place b above there its);
  }

  own-stays : (place : ℕ) (b : Block) → 0 < place → block_at chain.blocks place ≡ Some b
      → own_ext (first_of chain place) b ≡ own_ext (first_of (edited_chain chain epoch) place) b
  own-stays place b above there =
      let its = grows chain place b joined above there in
      ap (ext_on (first_of chain place) b) its.may.on_kept
      ∙ ap ext_bytes (sym ((judges_by_its_epoch chain.spec (Some epoch)).ext (take place chain.blocks) its.may.parent b (agrees-at place b above there its)))
      ∙ sym (ap (ext_on (first_of (edited_chain chain epoch) place) b) its.may.on_kept)

pub stays_joined : StaysJoined
stays_joined chain exts epoch are none all = record {
  joined = edited-joined chain epoch are.joined none all;
  own = record {
    as_many = are.own.as_many;
    own = λ place b above there. are.own.own place b above there ∙ ap Some (own-stays chain epoch are.joined none all place b above there);
  };
}

-- ---- A log

module _ (log : LogContent) (epoch : ℕ) (each : EachHasJoined log) (count : length log.blocks ≡ length (of_blocks log.records) + 1) (joined : IsJoined (chain_of log))
    (none : edition_of log.records ≡ None) (all : AllStandBefore epoch (chain_of log)) where
  abbrev spec : Specification
  spec = specification_in log

  module _ (place : ℕ) (r : Record) (there : slice_get (of_blocks log.records) place ≡ Some r) where
    abbrev kept : List Block
    kept = take (place + 1) log.blocks

    abbrev has : HasJoined (chain_before log (place + 1)) r (chain_before log (place + 2))
    has = each place r there

    next : (b : Block) × (block_at log.blocks (place + 1) ≡ Some b)
    next = slice_get-below log.blocks (place + 1) (let within = slice_get_within (of_blocks log.records) place r there in omega (arith, within, count))

    found : (can : CanJoin spec kept has.item) × (can.block ≡ next.0)
    found = item_of_record log place r next.0 has next.1

    abbrev can : CanJoin spec kept has.item
    can = found.0

    its : Grows (chain_of log) (place + 1) next.0
    its = grows (chain_of log) (place + 1) next.0 joined (omega arith) next.1

    parent : its.may.parent ≡ can.may.parent
    parent =
        same_Some its.may.parent can.may.parent
        (sym its.may.on_kept ∙ ap (λ (b : Block). place_of kept b.header.parent_hash) (sym found.1) ∙ can.may.on_kept)

    agrees : AgreesUpTo (length (branch kept can.may.parent)) (Some epoch) spec
    agrees =
        subst (λ (p : ℕ). AgreesUpTo (length (branch kept p)) (Some epoch) spec) parent
        (agrees-at (chain_of log) epoch joined none all (place + 1) next.0 (omega arith) next.1 its)

    abbrev can_edited : CanJoin (with_edition (Some epoch) spec) kept has.item
    can_edited = record {
      block = can.block;
      canonical = can.canonical;
      may = record {
        new = can.may.new;
        parent = can.may.parent;
        on_kept = can.may.on_kept;
        unbroken = unbroken-stays spec (Some epoch) (branch kept can.may.parent) can.block agrees can.may.unbroken;
        room = can.may.room;
      };
    }

    after : kept_after spec kept has.item ≡ kept ++ can.block ∷ []
    after = ((keeps-what-joins spec kept has.item).0 can).1

    after_edited : kept_after (with_edition (Some epoch) spec) kept has.item ≡ kept ++ can.block ∷ []
    after_edited = ((keeps-what-joins (with_edition (Some epoch) spec) kept has.item).0 can_edited).1

    ext : ext_over (chain_before log (place + 1)) has.item ≡ ext_over (edited_chain (chain_before log (place + 1)) epoch) has.item
    ext =
        ext_of_can (chain_before log (place + 1)) has.item can
        ∙ ap ext_bytes (sym ((judges_by_its_epoch spec (Some epoch)).ext kept can.may.parent can.block agrees))
        ∙ sym (ext_of_can (edited_chain (chain_before log (place + 1)) epoch) has.item can_edited)

    has-edited : HasJoined (edited_chain (chain_before log (place + 1)) epoch) r (edited_chain (chain_before log (place + 2)) epoch)
    has-edited = record {
      item = has.item;
      parts = has.parts ∙ ap (λ (bytes : List ℕ). Some (has.item, bytes)) ext;
      kept = ap (λ (blocks : List Block). record { spec = with_edition (Some epoch) spec; blocks = blocks }) (ap (λ (c : Chain). c.blocks) has.kept ∙ after ∙ sym after_edited);
      grown = has.grown;
    }

  module _ (r : Record) (is : is_of_edition r ≡ true) (told : epoch_in r ≡ epoch) where
    spec-edited : specification_in (edited log r) ≡ with_edition (Some epoch) spec
    spec-edited =
        ap (λ (edition : Option ℕ). with_edition edition (specification_of log.specification))
        ((editions_are_kept log.records r).told is none ∙ ap Some told)

    before-edited : (n : ℕ) → edited_chain (chain_before log n) epoch ≡ chain_before (edited log r) n
    before-edited n = ap (λ (s : Specification). record { spec = s; blocks = take n log.blocks }) (sym spec-edited)

    each-edited : EachHasJoined (edited log r)
    each-edited place one there =
        subst (λ (c : Chain). HasJoined (chain_before (edited log r) (place + 1)) one c) (before-edited (place + 2))
        (subst (λ (c : Chain). HasJoined c one (edited_chain (chain_before log (place + 2)) epoch)) (before-edited (place + 1))
        (has-edited place one (ap (λ (l : List Record). slice_get l place) (sym (blocks_of_same log.records r is)) ∙ there)))

pub stands_after_an_edition : StandsAfterAnEdition
stands_after_an_edition chain epoch image bytes place next records stands none all fits rest more =
    let log : LogContent = stands.log in
    let r : Record = edition_record epoch in
    let says : content_of_records records ≡ Some log = sym (says_its_records place records image.log rest) ∙ stands.is_log in
    let count : length log.blocks ≡ length (of_blocks log.records) + 1 = counts_its_records records log says in
    let none_there : edition_of log.records ≡ None = ap (λ (c : Chain). c.spec.second_from) stands.keeps ∙ none in
    let joined : IsJoined (chain_of log) = subst IsJoined (sym stands.keeps) (joined_of_image chain image stands) in
    let all_there : AllStandBefore epoch (chain_of log) = subst (AllStandBefore epoch) (sym stands.keeps) all in
    let edition = epoch_is_told epoch fits in
    record {
      log = edited log r;
      is_log = says_its_records next (records ++ r ∷ []) bytes more ∙ adds_an_edition records r log says none_there edition.0;
      keeps = ap (λ (s : Specification). record { spec = s; blocks = log.blocks }) (spec-edited log epoch stands.joined count joined none_there all_there r refl edition.1)
          ∙ ap (λ (c : Chain). edited_chain c epoch) stands.keeps;
      joined = each-edited log epoch stands.joined count joined none_there all_there r refl edition.1;
      snap_a = stands.snap_a;
      snap_b = stands.snap_b;
    }
