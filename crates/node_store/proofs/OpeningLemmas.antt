-- A log that was opened: what is kept of it, and what is so of that where its image is sound.
use Rattle.std.proofs.Common.{◌≡◌, ℕ, zero, suc, ◌+◌, ◌-◌, ◌^◌, ◌<◌, List, [], ◌∷◌, length, drop, map, Option, Some, None, refl, sym, ap, ◌∙◌, subst, arith}
use Rattle.std.specs.Prelude.{not, IfSome, IsTrue, slice_get}
use Rattle.std.specs.Option.{option_map}
use Rattle.std.specs.List.{All}
use Rattle.std.proofs.lemmas.List.{length-map}
use Rattle.std.proofs.lemmas.List.Elements.{All-cons, All-filter}
use Rattle.std.proofs.lemmas.Option.{same_Some, slice_get-map, slice_get_within}
use Rattle.chain_defs.specs.Shape.{Encoding, encoded, decoded, dynvec, fixvec}
use Rattle.chain_defs.specs.Schema.{header, uncle_block, transaction, proposal_short_id, Block, block}
use Rattle.chain_defs.proofs.ShapeLaws.{decoded-is}
use Rattle.chain_defs.proofs.RowLaws.{block-check}
use Rattle.chain_defs.specs.FitLaws.{IsCanonical}
use Rattle.chain_defs.proofs.ShapeLemmas.{table-parts}
use Rattle.chain_defs.specs.Dao.{is_rated}
use Rattle.chain_defs.specs.Specification.{Specification}
use Rattle.chain_defs.specs.Kept.{block_at}
use Rattle.chain_defs.proofs.KeptLaws.{slice_get-below}
use Rattle.chain_defs.specs.Ext.{count_at}
use Rattle.chain_tree.specs.declared.entry.Entry.{Entry}
use Rattle.chain_tree.specs.Blocks.{AreRated}
use Rattle.chain_tree.specs.Told.{Stored, blocks_of}
use Rattle.chain_tree.proofs.BlockLemmas.{described}
use Rattle.verdict_defs.specs.Chain.{Chain}
use Rattle.outside.specs.Image.{Image}
use Rattle.disk_defs.specs.Log.{Record, LogContent, records_of, is_of_edition, of_blocks, log_of, parts_of_body}
use Rattle.disk_defs.specs.LogLaws.{HasFittingBody}
use Rattle.disk_defs.proofs.Contents.{counts_its_records}
use Rattle.store_defs.specs.Store.{Keeps, chain_of, IsSound, IsJoined, AreJoined, HaveOwnExts, own_ext, chain_before, EachHasJoined}
use Rattle.store_defs.proofs.JoinedLemmas.{joined_of_image}
use Rattle.store_defs.proofs.ExtLemmas.{HoldsItsExt, exts_of_log, own_of_record}
use Rattle.store_defs.proofs.HeaderLaws.{blocks-are-rated}
use Rattle.log_file.specs.Grammar.{record_of, ext_in, AreBlocks}
use Rattle.log_file.specs.Opening.{IsOpened, kept_records}
use Rattle.node_store.specs.Stored.{CanBeKept}
use Rattle.node_store.specs.Kept.{KeptValue, kept_of, exts_of, CountFees}

-- ---- What is kept of it

pub same_log : (one other : LogContent) → Some one ≡ Some other → one ≡ other
same_log one other same = (cc)

pub same_chain : (one other : Chain) → Keeps one ≡ Keeps other → one ≡ other
same_chain one other same = (cc)

-- a sound image keeps one chain
pub joined-log : (now : Image) (log : LogContent) → IsSound now → log_of now.log ≡ Some log → EachHasJoined log
joined-log now log (chain, stands) is = subst EachHasJoined (same_log stands.log log (sym stands.is_log ∙ is)) stands.joined

pub joined-chain : (now : Image) (log : LogContent) → IsSound now → log_of now.log ≡ Some log → IsJoined (chain_of log)
joined-chain now log (chain, stands) is =
    let same : stands.log ≡ log = same_log stands.log log (sym stands.is_log ∙ is) in
    subst IsJoined (sym stands.keeps ∙ ap chain_of same) (joined_of_image chain now stands)

-- ---- The first two records

-- ---- They can be kept

abbrev block_fields : Block → List Encoding
block_fields b = header.encoding b.header ∷ (dynvec uncle_block).encoding b.uncles ∷ (dynvec transaction).encoding b.transactions
    ∷ (fixvec 10 proposal_short_id).encoding b.proposals ∷ []

-- the bytes of a canonical block are so few that four bytes count them
canonical-short : (b : Block) → IsCanonical b → length (encoded block b) < 2 ^ 32
unfolding block
canonical-short b canonical = (table-parts (block_fields b) canonical).0

block-there : (stored : List Stored) (place : ℕ) (it : Stored) → slice_get stored place ≡ Some it → block_at (blocks_of stored) place ≡ Some it.block
block-there stored place it there =
    slice_get-map (λ (x : Stored). x.block) stored place ∙ ap (option_map (λ (x : Stored). x.block)) there

canonical-decodes : (b : Block) → IsCanonical b → decoded block (encoded block b) ≡ Some b
canonical-decodes b canonical = decoded-is block block-check (encoded block b) b (record { fits = canonical; encoding = refl })

first_body : List Record → List ℕ
first_body [] = []
first_body (r ∷ records) = r.body

fitting-records : (stored : List Stored) (log : LogContent) → record_of 2 log.genesis ∷ of_blocks log.records ≡ kept_records stored
    → ((place : ℕ) (it : Stored) → slice_get stored place ≡ Some it → IsCanonical it.block) → All HasFittingBody log.records
    → All HasFittingBody (kept_records stored)
unfolding first_body block
fitting-records [] log held canonical fits = absurd (cc)
fitting-records (genesis ∷ later) log held canonical fits =
    let first : log.genesis ≡ encoded block genesis.block = ap first_body held in
    subst (All HasFittingBody) held
    (All-cons HasFittingBody (record_of 2 log.genesis) (of_blocks log.records)
    (subst (λ (bytes : List ℕ). length bytes < 2 ^ 32) (sym first) (canonical-short genesis.block (canonical 0 genesis refl)))
    (All-filter (λ (r : Record). not (is_of_edition r)) HasFittingBody log.records fits))

no-ext : (stored : List Stored) (exts : List (List ℕ)) → exts_of stored ≡ [] ∷ exts → IfSome (slice_get stored 0) (λ it. it.ext ≡ [])
no-ext [] exts is = absurd (cc)
no-ext (it ∷ stored) exts is = (cc)

pub can-be-kept : (bytes : List ℕ) (log : LogContent) (spec : Specification) (stored : List Stored) (entries : List Entry)
    → IsOpened bytes log spec stored entries → AreBlocks stored entries → CanBeKept stored
can-be-kept bytes log spec stored entries is are =
    let canonical : (place : ℕ) (it : Stored) → slice_get stored place ≡ Some it → IsCanonical it.block =
    λ place it there. are.canonical place it.block (block-there stored place it there) in
    record {
      canonical = λ place it there. canonical-decodes it.block (canonical place it there);
      fit = fitting-records stored log is.opened.held canonical is.opened.fits;
      genesis = no-ext stored (map ext_in (of_blocks log.records)) is.opened.exts;
      forms = λ place it above there. are.forms place it there above;
    }

-- ---- Where the image is sound

chain-is : (bytes : List ℕ) (log : LogContent) (spec : Specification) (stored : List Stored) (entries : List Entry)
    → IsOpened bytes log spec stored entries → chain_of log ≡ (kept_of spec stored entries).chain
chain-is bytes log spec stored entries is =
    λ i. record { spec = sym is.specified i; blocks = sym is.opened.blocks i }

pub chain-opened : (bytes : List ℕ) (log : LogContent) (kept : KeptValue) (spec : Specification) (stored : List Stored) (entries : List Entry)
    → kept ≡ kept_of spec stored entries → IsOpened bytes log spec stored entries → chain_of log ≡ kept.chain
chain-opened bytes log kept spec stored entries of is =
    chain-is bytes log spec stored entries is ∙ ap (λ (k : KeptValue). k.chain) (sym of)

ext_is : (r : Record) (item ext : List ℕ) → parts_of_body r.body ≡ Some (item, ext) → ext_in r ≡ ext
ext_is r item ext is =
    ap (λ (o : Option (List ℕ × List ℕ)). elim o [
      | None ↦ []
      | Some parts ↦ parts.1
    ]) is

module _ (bytes : List ℕ) (log : LogContent) (spec : Specification) (stored : List Stored) (entries : List Entry)
    (is : IsOpened bytes log spec stored entries) (each : EachHasJoined log) where
  many : length log.blocks ≡ length (of_blocks log.records) + 1
  many = counts_its_records (records_of (drop 8 bytes)) log is.says

  block-in : (place : ℕ) (it : Stored) → slice_get stored place ≡ Some it → block_at log.blocks place ≡ Some it.block
  block-in place it there =
      ap (λ (blocks : List Block). block_at blocks place) (sym is.opened.blocks) ∙ block-there stored place it there

  -- the ext beside a block is that of its record
  ext-in : (before : ℕ) (it : Stored) (r : Record) → slice_get stored (suc before) ≡ Some it → slice_get (of_blocks log.records) before ≡ Some r → it.ext ≡ ext_in r
  ext-in before it r there at =
      same_Some it.ext (ext_in r)
      (sym (slice_get-map (λ (x : Stored). x.ext) stored (suc before) ∙ ap (option_map (λ (x : Stored). x.ext)) there)
      ∙ ap (λ (l : List (List ℕ)). slice_get l (suc before)) is.opened.exts ∙ slice_get-map ext_in (of_blocks log.records) before ∙ ap (option_map ext_in) at)

  record-at : (before : ℕ) (b : Block) → block_at log.blocks (suc before) ≡ Some b → (r : Record) × (slice_get (of_blocks log.records) before ≡ Some r)
  record-at before b there = slice_get-below (of_blocks log.records) before (omega (arith, many, slice_get_within log.blocks (suc before) b there))

  fit-record : (before : ℕ) (r : Record) → slice_get (of_blocks log.records) before ≡ Some r → HasFittingBody r
  fit-record before r at = fit-one (of_blocks log.records) before r (All-filter (λ (x : Record). not (is_of_edition x)) HasFittingBody log.records is.opened.fits) at
    where
      fit-one : (records : List Record) (place : ℕ) (one : Record) → All HasFittingBody records → slice_get records place ≡ Some one → HasFittingBody one
      fit-one [] place one all at = absurd (cc)
      fit-one (first ∷ records) zero one all at = subst HasFittingBody (same_Some first one at) (all 0 first (omega arith))
      fit-one (first ∷ records) (suc place) one all at =
          fit-one records place one (λ k d below. all (suc k) d (omega (arith, below))) at

  counted-at : (place : ℕ) (it : Stored) → 0 < place → slice_get stored place ≡ Some it → count_at it.ext 0 ≡ length it.block.transactions - 1
  counted-at zero it above there = absurd (omega (arith, above))
  counted-at (suc before) it above there =
      let here = block-in (suc before) it there in
      let r = record-at before it.block here in
      let next : before + 1 ≡ suc before = omega arith in
      let its : HoldsItsExt r.0 it.block = exts_of_log bytes log is.is_log each before r.0 it.block r.1 (ap (block_at log.blocks) next ∙ here) (fit-record before r.0 r.1) in
      ap (λ (e : List ℕ). count_at e 0) (ext-in before it r.0 there r.1 ∙ ext_is r.0 its.holds.item its.holds.ext its.holds.parts) ∙ its.fees

  -- each ext counts its fees
  pub counted-opened : CountFees stored
  counted-opened place it above there = counted-at place it above there

  own_at : (place : ℕ) (b : Block) → 0 < place → block_at log.blocks place ≡ Some b → slice_get (exts_of stored) place ≡ Some (own_ext (chain_before log place) b)
  own_at zero b above there = absurd (omega (arith, above))
  own_at (suc before) b above there =
      let next : before + 1 ≡ suc before = omega arith in
      let r = record-at before b there in
      let own = own_of_record log each before r.0 b r.1 (ap (block_at log.blocks) next ∙ there) in
      ap (λ (l : List (List ℕ)). slice_get l (suc before)) is.opened.exts ∙ slice_get-map ext_in (of_blocks log.records) before ∙ ap (option_map ext_in) r.1
      ∙ ap Some (ext_is r.0 own.0 (own_ext (chain_before log (before + 1)) b) own.1)
      ∙ ap (λ (count : ℕ). Some (own_ext (chain_before log count) b)) next

  own-log : HaveOwnExts (chain_of log) (exts_of stored)
  own-log = record {
    as_many = ap length is.opened.exts ∙ ap suc (length-map (of_blocks log.records) ext_in) ∙ omega (arith, many);
    own = own_at;
  }

  -- what is kept has joined
  pub joined-opened : IsJoined (chain_of log) → (kept : KeptValue) → kept ≡ kept_of spec stored entries → AreJoined kept.chain kept.exts
  joined-opened joined kept of =
      let chain : chain_of log ≡ kept.chain = chain-opened bytes log kept spec stored entries of is in
      let beside : exts_of stored ≡ kept.exts = ap (λ (k : KeptValue). k.exts) (sym of) in
      record {
        joined = subst IsJoined chain joined;
        own = subst (λ (exts : List (List ℕ)). HaveOwnExts kept.chain exts) beside (subst (λ (c : Chain). HaveOwnExts c (exts_of stored)) chain own-log);
      }

  -- its entries are rated
  pub rated-opened : IsJoined (chain_of log) → AreBlocks stored entries → AreRated entries
  rated-opened joined are place entry there =
      let here = described (blocks_of stored) entries place entry are.indexed.each there in
      let in_log : block_at log.blocks place ≡ Some here.block =
      ap (λ (blocks : List Block). block_at blocks place) (sym is.opened.blocks) ∙ here.there in
      subst (λ (dao : List ℕ). IsTrue (is_rated dao)) (sym here.is.dao) (blocks-are-rated (chain_of log) place here.block joined in_log)
