-- What is gathered of the blocks of a log: one block more, and all of them.
use Rattle.std.proofs.Common.{◌≡◌, ℕ, zero, suc, ◌+◌, ◌-◌, ◌*◌, ◌<◌, ◌≤◌, ◌^◌, Bool, true, false, eqb, drop, List, [], ◌∷◌, ◌++◌, length, Option, Some, None, refl, sym, ap, ◌∙◌, subst, inl, inr, ◌⊎◌, arith}
use Rattle.std.specs.Prelude.{IsTrue, slice_get}
use Rattle.std.specs.Option.{option_map}
use Rattle.std.proofs.lemmas.Bool.{and_parts, and_from}
use Rattle.std.proofs.lemmas.Bool.Decides.{Decides-eqb}
use Rattle.std.proofs.lemmas.List.{length-map, length_push, map_push}
use Rattle.std.proofs.lemmas.Option.{same_Some, slice_get-map, slice_get_within}
use Rattle.chain_defs.specs.Schema.{Block}
use Rattle.chain_defs.specs.Dao.{is_rated}
use Rattle.chain_defs.specs.Kept.{block_at, kept_limit}
use Rattle.chain_defs.proofs.KeptLaws.{slice_get-below, slice_get-before, slice_get-push, slice_get-pushed}
use Rattle.chain_defs.specs.Ext.{count_at, row_size, are_rows, is_ext}
use Rattle.cell_state.specs.State.{StateValue, rows}
use Rattle.cell_state.specs.Moves.{AreRowsOfBranch}
use Rattle.cell_state.proofs.RowLemmas.{live_row-genesis}
use Rattle.chain_tree.specs.declared.entry.Entry.{Entry}
use Rattle.chain_tree.specs.Blocks.{IndexesBlocks, AreRated}
use Rattle.chain_tree.specs.Told.{Stored, blocks_of}
use Rattle.chain_tree.proofs.BlockLemmas.{described, len-same}
use Rattle.uncle_rules.specs.Embedded.{embedded_in, embedded_from, UnclesValue, IndexesUncles}
use Rattle.log_file.specs.Grammar.{AreBlocks}
use Rattle.node_store.specs.Kept.{CountFees, AreKept}
use Rattle.node_store.proofs.JoiningLemmas.{uncles-push}
use Rattle.node_store.specs.Gathering.{counts_fees, fits_at, FitInPlace, IsFirstUnfit, IsUnfit, or_unfit, IsBodyOfUnfit, AreLeftBy, IsGathered}

-- ---- Exts

-- The form of an ext has room for its count of fees.
pub ext-long : (bytes : List ℕ) → IsTrue (is_ext bytes) → 4 ≤ length bytes
unfolding is_ext row_size
ext-long bytes form =
    let rows_at : ℕ = 4 + 8 * count_at bytes 0 in
    let rows : ℕ = count_at bytes rows_at in
    let test = and_parts (eqb (length bytes) (rows_at + 4 + 161 * rows)) (are_rows rows (drop (rows_at + 4) bytes)) form in
    let long : length bytes ≡ rows_at + 4 + 161 * rows = (Decides-eqb (length bytes) (rows_at + 4 + 161 * rows)).0 test.0 in
    omega (arith, long)

-- ---- Whether all fit

none-fits : FitInPlace []
none-fits place it there = absurd (cc)

fit-there : (stored : List Stored) (it : Stored) → FitInPlace stored → IsTrue (fits_at (length stored) it) → FitInPlace (stored ++ it ∷ [])
fit-there stored it earlier last place other here = by_place (slice_get-pushed stored it place other here)
  where
    by_place : ((place < length stored) × (slice_get stored place ≡ Some other)) ⊎ ((place ≡ length stored) × (it ≡ other)) → IsTrue (fits_at place other)
    by_place (inl before) = earlier place other before.1
    by_place (inr here) =
        subst (λ (n : ℕ). IsTrue (fits_at n other)) (sym here.0) (subst (λ (x : Stored). IsTrue (fits_at (length stored) x)) here.1 last)

fit-more : (stored : List Stored) (it : Stored) (unfit : Option ℕ) → IsUnfit unfit stored
    → IsUnfit (or_unfit unfit (fits_at (length stored) it) (length stored)) (stored ++ it ∷ [])
fit-more stored it (Some first) so_far =
    let within : first < length stored = slice_get_within stored first so_far.it so_far.there in
    record {
      it = so_far.it;
      there = slice_get-before stored (it ∷ []) first within ∙ so_far.there;
      wrong = so_far.wrong;
      before = λ place other earlier here.
          so_far.before place other earlier (sym (slice_get-before stored (it ∷ []) place (omega (arith, earlier, within))) ∙ here);
    }
fit-more stored it None so_far = by_test (fits_at (length stored) it) refl
  where
    by_test : (t : Bool) → fits_at (length stored) it ≡ t → IsUnfit (or_unfit None t (length stored)) (stored ++ it ∷ [])
    by_test true is = fit-there stored it so_far is
    by_test false is = record {
      it = it;
      there = slice_get-push stored it;
      wrong = is;
      before = λ place other earlier here. so_far place other (sym (slice_get-before stored (it ∷ []) place earlier) ∙ here);
    }

-- ---- Uncles

none-embedded : embedded_from 0 [] ≡ []
unfolding embedded_from
none-embedded = refl

blocks-more : (stored : List Stored) (it : Stored) → blocks_of (stored ++ it ∷ []) ≡ blocks_of stored ++ it.block ∷ []
blocks-more stored it = map_push (λ (x : Stored). x.block) stored it

index-more : (stored : List Stored) (it : Stored) (count : ℕ) (old new : UnclesValue) → count ≡ length stored → IndexesUncles (blocks_of stored) old
    → new.embedded ≡ old.embedded ++ embedded_in count it.block → IndexesUncles (blocks_of (stored ++ it ∷ [])) new
index-more stored it count old new counted index is =
    let place : count ≡ length (blocks_of stored) = omega (arith, counted, length-map stored (λ (x : Stored). x.block)) in
    uncles-push (blocks_of stored) it.block count old.embedded new.embedded place index is ∙ ap (embedded_from 0) (sym (blocks-more stored it))

-- ---- The live cells that the genesis leaves

left-more : (stored : List Stored) (it : Stored) (count : ℕ) (old new : Option StateValue) → count ≡ length stored
    → ((genesis : Block) → block_at (blocks_of stored) 0 ≡ Some genesis → AreLeftBy genesis old)
    → (count ≡ 0 → AreLeftBy it.block new) → (0 < count → new ≡ old)
    → (genesis : Block) → block_at (blocks_of (stored ++ it ∷ [])) 0 ≡ Some genesis → AreLeftBy genesis new
left-more [] it count old new counted left first later genesis there =
    subst (λ (b : Block). AreLeftBy b new) (same_Some it.block genesis there) (first counted)
left-more (x ∷ stored) it count old new counted left first later genesis there =
    subst (AreLeftBy genesis) (sym (later (omega (arith, counted)))) (left genesis there)

-- ---- What was gathered

pub gathered-none : (stored : List Stored) (uncles : UnclesValue) → stored ≡ [] → uncles.embedded ≡ [] → IsGathered stored 0 uncles None None
gathered-none stored uncles none index = subst (λ (l : List Stored). IsGathered l 0 uncles None None) (sym none) (record {
  counted = refl;
  index = index ∙ sym none-embedded;
  left = λ genesis there. absurd (cc);
  fit = none-fits;
})

-- one block more
pub gathered-more : (stored after : List Stored) (it : Stored) (count more : ℕ) (uncles next : UnclesValue) (cells left : Option StateValue) (unfit first : Option ℕ)
    → IsGathered stored count uncles cells unfit → after ≡ stored ++ it ∷ [] → more ≡ count + 1
    → next.embedded ≡ uncles.embedded ++ embedded_in count it.block → (count ≡ 0 → AreLeftBy it.block left) → (0 < count → left ≡ cells)
    → first ≡ or_unfit unfit (fits_at count it) count → IsGathered after more next left first
gathered-more stored after it count more uncles next cells left unfit first so_far grown one index genesis later fit =
    let test : first ≡ or_unfit unfit (fits_at (length stored) it) (length stored) = fit ∙ ap (λ (n : ℕ). or_unfit unfit (fits_at n it) n) so_far.counted in
    subst (λ (l : List Stored). IsGathered l more next left first) (sym grown) (record {
      counted = omega (arith, one, so_far.counted, length_push stored it);
      index = index-more stored it count uncles next so_far.counted so_far.index index;
      left = left-more stored it count cells left so_far.counted so_far.left genesis later;
      fit = subst (λ (o : Option ℕ). IsUnfit o (stored ++ it ∷ [])) (sym test) (fit-more stored it unfit so_far.fit);
    })

-- the count of the blocks fits with one more
pub one-more-fits : (count : ℕ) (stored seen : List Stored) → count ≡ length stored → stored ≡ seen → length seen < kept_limit → count + 1 < 2 ^ 32
unfolding kept_limit
one-more-fits count stored seen counted same few = omega (arith, counted, ap length same, few)

-- ---- All of them

rated-of : (place : ℕ) (it : Stored) → IsTrue (fits_at place it) → IsTrue (is_rated it.block.header.dao)
rated-of zero it fit = fit
rated-of (suc place) it fit = (and_parts (is_rated it.block.header.dao) (counts_fees it) fit).0

counted-of : (place : ℕ) (it : Stored) → 0 < place → IsTrue (fits_at place it) → count_at it.ext 0 ≡ length it.block.transactions - 1
counted-of zero it above fit = absurd (omega (arith, above))
counted-of (suc place) it above fit =
    (Decides-eqb (count_at it.ext 0) (length it.block.transactions - 1)).0 (and_parts (is_rated it.block.header.dao) (counts_fees it) fit).1

fits-so : (place : ℕ) (it : Stored) → IsTrue (is_rated it.block.header.dao) → (0 < place → count_at it.ext 0 ≡ length it.block.transactions - 1)
    → IsTrue (fits_at place it)
fits-so zero it rated counted = rated
fits-so (suc place) it rated counted =
    and_from (is_rated it.block.header.dao) (counts_fees it) rated
    ((Decides-eqb (count_at it.ext 0) (length it.block.transactions - 1)).1 (counted (omega arith)))

block-stored : (stored : List Stored) (place : ℕ) (it : Stored) (b : Block) → slice_get stored place ≡ Some it → block_at (blocks_of stored) place ≡ Some b
    → it.block ≡ b
block-stored stored place it b there here =
    same_Some it.block b (sym (slice_get-map (λ (x : Stored). x.block) stored place ∙ ap (option_map (λ (x : Stored). x.block)) there) ∙ here)

many-stored : (stored : List Stored) (entries : List Entry) → IndexesBlocks (blocks_of stored) entries → length entries ≡ length stored
many-stored stored entries indexed = len-same (blocks_of stored) entries indexed ∙ length-map stored (λ (it : Stored). it.block)

-- where an entry's block with its ext is stored
entry-dao : (stored : List Stored) (entries : List Entry) (place : ℕ) (it : Stored) (entry : Entry) → IndexesBlocks (blocks_of stored) entries
    → slice_get stored place ≡ Some it → slice_get entries place ≡ Some entry → entry.dao ≡ it.block.header.dao
entry-dao stored entries place it entry indexed there at =
    let here = described (blocks_of stored) entries place entry indexed.each at in
    here.is.dao ∙ ap (λ (b : Block). b.header.dao) (sym (block-stored stored place it here.block there here.there))

pub rated-fit : (stored : List Stored) (entries : List Entry) → IndexesBlocks (blocks_of stored) entries → FitInPlace stored → AreRated entries
rated-fit stored entries indexed fit place entry at =
    let within : place < length stored = omega (arith, slice_get_within entries place entry at, many-stored stored entries indexed) in
    let found = slice_get-below stored place within in
    subst (λ (dao : List ℕ). IsTrue (is_rated dao)) (sym (entry-dao stored entries place found.0 entry indexed found.1 at))
    (rated-of place found.0 (fit place found.0 found.1))

pub counted-fit : (stored : List Stored) → FitInPlace stored → CountFees stored
counted-fit stored fit place it above there = counted-of place it above (fit place it there)

pub fit-all : (stored : List Stored) (entries : List Entry) → IndexesBlocks (blocks_of stored) entries → AreRated entries → CountFees stored → FitInPlace stored
fit-all stored entries indexed rated counted place it there =
    let within : place < length entries = omega (arith, slice_get_within stored place it there, many-stored stored entries indexed) in
    let found = slice_get-below entries place within in
    fits-so place it
    (subst (λ (dao : List ℕ). IsTrue (is_rated dao)) (entry-dao stored entries place it found.0 indexed there found.1) (rated place found.0 found.1))
    (λ above. counted place it above there)

-- what was gathered, as it is seen
pub blocks-seen : (stored seen : List Stored) (entries : List Entry) → stored ≡ seen → AreBlocks seen entries → AreBlocks stored entries
blocks-seen stored seen entries same are = subst (λ (l : List Stored). AreBlocks l entries) (sym same) are

pub counted-seen : (stored seen : List Stored) → stored ≡ seen → CountFees stored → CountFees seen
counted-seen stored seen same counted = subst CountFees same counted

-- where some block does not fit, they have not joined
pub never-fits : (stored seen : List Stored) (entries : List Entry) (place : ℕ) → IsFirstUnfit stored place → stored ≡ seen → AreBlocks seen entries
    → AreRated entries → CountFees seen → ⊥
never-fits stored seen entries place unfit same are rated counted =
    true-not-false (sym (fit-all stored entries (blocks-seen stored seen entries same are).indexed rated (subst CountFees (sym same) counted) place unfit.it unfit.there)
    ∙ unfit.wrong)
  where
    true-not-false : ◌≡◌ {A = Bool} true false → ⊥
    true-not-false is = absurd (cc)

-- the entry of the first that does not fit names its body
pub unfit-within : (stored seen : List Stored) (entries : List Entry) (place : ℕ) → IsFirstUnfit stored place → stored ≡ seen → AreBlocks seen entries
    → place < length entries
unfit-within stored seen entries place unfit same are =
    omega (
      arith,
      slice_get_within stored place unfit.it unfit.there,
      many-stored stored entries (blocks-seen stored seen entries same are).indexed,
    )

pub body-of-unfit : (stored seen : List Stored) (entries : List Entry) (place : ℕ) (entry : Entry) → IsFirstUnfit stored place → stored ≡ seen
    → slice_get entries place ≡ Some entry → IsBodyOfUnfit seen entries entry.at
body-of-unfit stored seen entries place entry unfit same there =
    record { place = place; first = subst (λ (l : List Stored). IsFirstUnfit l place) same unfit; entry = entry; there = there; named = refl }

-- all is kept
pub are-kept-gathered : (stored : List Stored) (entries : List Entry) (count : ℕ) (uncles : UnclesValue) (cells : Option StateValue) (unfit : Option ℕ)
    → IsGathered stored count uncles cells unfit → AreBlocks stored entries → FitInPlace stored → AreKept stored entries uncles
are-kept-gathered stored entries count uncles cells unfit gathered are each =
    record {
      canonical = are.canonical;
      indexed = are.indexed;
      uncles = gathered.index;
      rated = rated-fit stored entries are.indexed each;
      counted = counted-fit stored each;
      few = are.few;
    }

-- a tree has a tip, so it has entries
pub some-entries : (tip : ℕ) (entries : List Entry) → tip < length entries → 0 < length entries
some-entries tip entries within = omega (arith, within)

first-of : (stored : List Stored) (entries : List Entry) → IndexesBlocks (blocks_of stored) entries → 0 < length entries
    → (b : Block) × (block_at (blocks_of stored) 0 ≡ Some b)
first-of stored entries indexed some = slice_get-below (blocks_of stored) 0 (omega (arith, some, len-same (blocks_of stored) entries indexed))

-- there is a genesis, which leaves its cells
pub some-cells : (stored : List Stored) (entries : List Entry) (count : ℕ) (uncles : UnclesValue) (cells : Option StateValue) (unfit : Option ℕ)
    → IsGathered stored count uncles cells unfit → IndexesBlocks (blocks_of stored) entries → 0 < length entries → cells ≡ None → ⊥
some-cells stored entries count uncles cells unfit gathered indexed some none =
    let first = first-of stored entries indexed some in
    subst (AreLeftBy first.0) none (gathered.left first.0 first.1)

pub cells-left : (stored : List Stored) (entries : List Entry) (count : ℕ) (uncles : UnclesValue) (cells : Option StateValue) (unfit : Option ℕ) (state : StateValue)
    → IsGathered stored count uncles cells unfit → IndexesBlocks (blocks_of stored) entries → 0 < length entries → cells ≡ Some state
    → AreRowsOfBranch (blocks_of stored) 0 (rows state)
cells-left stored entries count uncles cells unfit state gathered indexed some is o =
    let first = first-of stored entries indexed some in
    subst (AreLeftBy first.0) is (gathered.left first.0 first.1) o ∙ sym (live_row-genesis (blocks_of stored) first.0 o first.1)
