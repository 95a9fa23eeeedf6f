-- What is kept with one more block: the index, the uncles, and the live cells of the tip.
use Rattle.std.proofs.Common.{◌≡◌, ℕ, suc, ◌+◌, ◌-◌, ◌≤◌, ◌<◌, ◌^◌, Bool, true, false, cond, ltb, List, [], ◌∷◌, ◌++◌, length, Option, Some, None, refl, sym, ap, ◌∙◌, subst, inl, inr, ◌⊎◌, arith}
use Rattle.std.specs.Prelude.{Result, Ok, Err, IfOk, IfSome, IsTrue, IsSomeAnd, is_some, slice_get}
use Rattle.std.proofs.lemmas.Bool.Decides.{Decides-eqb}
use Rattle.std.proofs.lemmas.List.{append-nil, append_assoc, length_push, length-map, map-append}
use Rattle.std.proofs.lemmas.Option.{slice_get_within, same_Some}
use Rattle.chain_defs.specs.Shape.{IsEncoding, decoded}
use Rattle.chain_defs.specs.Schema.{OutPoint, Block, block}
use Rattle.chain_defs.specs.Specification.{Specification}
use Rattle.chain_defs.specs.Kept.{block_hash, block_at, StandsOn, IsKept, follows, kept_limit}
use Rattle.chain_defs.specs.Branch.{branch}
use Rattle.std.specs.Option.{option_and_then}
use Rattle.chain_defs.specs.Tip.{tip, tip_place}
use Rattle.chain_defs.proofs.ShapeLaws.{IsEncoding-decoded}
use Rattle.chain_defs.proofs.KeptLaws.{slice_get-below, slice_get-pushed, place_of-below, place_of-there, IsKept-push}
use Rattle.chain_defs.proofs.BranchLaws.{branch-last}
use Rattle.chain_defs.proofs.TipLaws.{tip_place-there, tip_place-below, tip_place-push}
use Rattle.chain_defs.specs.Dao.{is_rated}
use Rattle.rule_defs.specs.Header.{parent_of}
use Rattle.chain_defs.specs.Ext.{count_at}
use Rattle.chain_defs.specs.Events.{events_of_block, live_cell}
use Rattle.chain_defs.specs.Row.{Row, live_row}
use Rattle.chain_defs.specs.Fit.{are_live, AllFit}
use Rattle.cell_state.specs.ListBlocks.{IsExtFor}
use Rattle.cell_state.specs.State.{StateValue, rows, Grows}
use Rattle.cell_state.proofs.RowLemmas.{live_row-prefix}
use Rattle.chain_defs.proofs.FitLemmas.{row-where-cell, all-same}
use Rattle.chain_tree.specs.declared.entry.Entry.{Entry}
use Rattle.chain_tree.specs.Entries.{entry_at, place_of_hash, FollowsParent}
use Rattle.chain_tree.specs.Blocks.{Describes, IndexesBlocks}
use Rattle.chain_tree.specs.Told.{Stored, blocks_of}
use Rattle.chain_tree.proofs.BlockLemmas.{len-same, entry-same, find-same}
use Rattle.chain_tree.proofs.EntryLemmas.{and_some}
use Rattle.chain_tree.specs.Blocks.{AreRated}
use Rattle.uncle_rules.specs.Embedded.{Embedded, embedded_in, embedded_from, UnclesValue}
use Rattle.verdict_defs.specs.Chain.{Chain}
use Rattle.verdict_defs.specs.Laws.{MayJoin}
use Rattle.verdict_defs.proofs.VerdictLaws.{parent_of-branch}
use Rattle.store_defs.proofs.FitLaws.{what-joins-fits}
use Rattle.node_store.specs.declared.decision.Joining.{Joining}
use Rattle.chain_defs.specs.FitLaws.{AreCanonical}
use Rattle.cell_state.specs.Moves.{AreRowsOfBranch}
use Rattle.node_store.specs.declared.decision.Decision.TheVariants.{Joins, Stays}
use Rattle.node_store.specs.declared.decision.Decision.{Decision}
use Rattle.node_store.proofs.MovingLemmas.{canonical-push}
use Rattle.node_store.specs.Kept.{exts_of, KeptValue, kept_of, kept_with, CountFees, AreKept, AreRowsOfFound, AreRowsOfTip}
use Rattle.node_store.specs.Judging.{IsReady, IsOnParent, is_above, becomes_tip, parent_of_joining, place_for}

-- ---- A block that is ready

-- its number is the next after its parent's
next-number : (kept : List Block) (b : Block) (joining : Joining) (parent : Block) → IsReady kept b joining → block_at kept joining.entry.parent ≡ Some parent
    → b.header.number ≡ parent.header.number + 1
next-number kept b joining parent ready there =
    let below = place_of-below kept b.header.parent_hash joining.entry.parent ready.entry.on_kept in
    let last : parent_of (branch kept joining.entry.parent) ≡ Some parent = parent_of-branch kept joining.entry.parent below ∙ there in
    let next : follows b (Some parent) ≡ true = ap (follows b) (sym last) ∙ ready.next in
    (Decides-eqb b.header.number (parent.header.number + 1)).0 next

-- it stands on its parent
stands-ready : (kept : List Block) (b : Block) (joining : Joining) → IsReady kept b joining → StandsOn kept b
stands-ready kept b joining ready =
    let found = place_of-there kept b.header.parent_hash joining.entry.parent ready.entry.on_kept in
    record {
      place = joining.entry.parent;
      parent = found.0;
      named = ready.entry.on_kept;
      there = found.1;
      next = next-number kept b joining found.0 ready found.1;
    }

pub is_kept-ready : (kept : List Block) (b : Block) (joining : Joining) → IsKept kept → IsReady kept b joining → IsKept (kept ++ b ∷ [])
is_kept-ready kept b joining is_kept ready = IsKept-push kept b is_kept (stands-ready kept b joining ready) ready.entry.new

-- the rows that it goes on from, where it becomes the tip
pub joining-cells : (kept : List Block) (joining : Joining) (found : OutPoint → Option Row) → becomes_tip kept (Joins joining) ≡ true
    → AreRowsOfFound kept (place_for kept (Joins joining)) found → AreRowsOfBranch kept joining.entry.parent found
joining-cells kept joining found high live =
    live joining.entry.parent (ap (λ (t : Bool). cond t (Some joining.entry.parent) (tip_place kept)) high)

-- and where it does not
pub staying-cells : (kept : List Block) (joining : Joining) (found : OutPoint → Option Row) → becomes_tip kept (Joins joining) ≡ false
    → AreRowsOfFound kept (place_for kept (Joins joining)) found → AreRowsOfTip kept found
staying-cells kept joining found low live tip is =
    live tip (ap (λ (t : Bool). cond t (Some joining.entry.parent) (tip_place kept)) low ∙ is)

-- where the cells stand once a decision is made: at the parent of a block that becomes the tip
pub at-parent : (kept : List Block) (parent : ℕ) (decision : Decision) (found : OutPoint → Option Row) → IsOnParent parent decision
    → becomes_tip kept decision ≡ true → AreRowsOfBranch kept parent found → AreRowsOfFound kept (place_for kept decision) found
at-parent kept parent (Joins joining) found on high live place is =
    let there : Some joining.entry.parent ≡ Some place = sym (ap (λ (t : Bool). cond t (Some joining.entry.parent) (tip_place kept)) high) ∙ is in
    subst (λ (p : ℕ). AreRowsOfBranch kept p found) (sym on ∙ same_Some joining.entry.parent place there) live
at-parent kept parent (Stays verdict) found on high live place is = absurd (cc)

-- and at the tip else
pub at-tip : (kept : List Block) (at : ℕ) (decision : Decision) (found : OutPoint → Option Row) → tip_place kept ≡ Some at
    → becomes_tip kept decision ≡ false → AreRowsOfBranch kept at found → AreRowsOfFound kept (place_for kept decision) found
at-tip kept at decision found tip_is low live place is =
    let there : tip_place kept ≡ Some place = sym (ap (λ (t : Bool). cond t (parent_of_joining decision) (tip_place kept)) low) ∙ is in
    subst (λ (p : ℕ). AreRowsOfBranch kept p found) (same_Some at place (sym tip_is ∙ there)) live

-- its events fit other rows that are the same
pub fits-parent : (kept : List Block) (height : ℕ) (b : Block) (parent : ℕ) (cells : StateValue)
    → ((o : OutPoint) → rows cells o ≡ live_row kept parent o) → AllFit (events_of_block height b) (are_live (live_cell (branch kept parent)))
    → AllFit (events_of_block height b) (are_live (rows cells))
fits-parent kept height b parent cells same fit =
    all-same (events_of_block height b) (are_live (live_cell (branch kept parent))) (are_live (rows cells))
    (λ o. ap is_some (same o) ∙ row-where-cell kept parent o) fit

-- ---- The tip with one more block

some_block : (found : Option Block) (P : Block → Type 0) → IsSomeAnd found P → (b : Block) × (found ≡ Some b) × P b
some_block None P here = absurd here
some_block (Some b) P here = (b, refl, here)

-- an entry's number above the tip's
pub above-tip : (kept : List Block) (at : ℕ) (top entry : Entry) → tip_place kept ≡ Some at
    → IsSomeAnd (block_at kept at) (λ block. Describes block top) → ltb top.number entry.number ≡ is_above (tip kept) entry
above-tip kept at top entry found here =
    let block = some_block (block_at kept at) (λ block. Describes block top) here in
    let is_top : tip kept ≡ Some block.0 = ap (option_and_then (block_at kept)) found ∙ block.1 in
    ap (λ (n : ℕ). ltb n entry.number) block.2.number ∙ ap (λ (o : Option Block). is_above o entry) (sym is_top)

module _ (kept : List Block) (b : Block) (at : ℕ) (top : Block) (found : tip_place kept ≡ Some at) (there : block_at kept at ≡ Some top)
    (joining : Joining) (ready : IsReady kept b joining) where
  next_tip : (t : Bool) → becomes_tip kept (Joins joining) ≡ t → tip_place (kept ++ b ∷ []) ≡ Some (cond t (length kept) at)
  next_tip t is =
      let is_top : tip kept ≡ Some top = ap (option_and_then (block_at kept)) found ∙ there in
      let test : ltb top.header.number b.header.number ≡ t =
      ap (ltb top.header.number) (sym ready.entry.describes.number) ∙ ap (λ (o : Option Block). is_above o joining.entry) (sym is_top) ∙ is in
      tip_place-push kept b at top found there ∙ ap (λ (x : Bool). Some (cond x (length kept) at)) test

  -- the rows of a tip that stays
  stays_at : (cells : OutPoint → Option Row) → becomes_tip kept (Joins joining) ≡ false → AreRowsOfTip kept cells → AreRowsOfTip (kept ++ b ∷ []) cells
  stays_at cells low live place now o =
      let same : at ≡ place = same_Some at place (sym (next_tip false low) ∙ now) in
      subst (λ (p : ℕ). cells o ≡ live_row (kept ++ b ∷ []) p o) same
      (live at found o ∙ sym (live_row-prefix kept (b ∷ []) at o (tip_place-below kept at found)))

  -- those of a block that becomes the tip
  moves_to : (place : ℕ) (cells next : StateValue) → IsKept kept → place ≡ length kept → becomes_tip kept (Joins joining) ≡ true
      → AreRowsOfBranch kept joining.entry.parent (rows cells) → Grows b place cells next → AreRowsOfTip (kept ++ b ∷ []) (rows next)
  moves_to place cells next is_kept long high same grows other now o =
      let is : place ≡ other = long ∙ same_Some (length kept) other (sym (next_tip true high) ∙ now) in
      subst (λ (p : ℕ). rows next o ≡ live_row (kept ++ b ∷ []) p o) is
      (grows kept joining.entry.parent (is_kept-ready kept b joining is_kept ready) ready.entry.on_kept (sym long) same o)

some-tip : (kept : List Block) (b : Block) (joining : Joining) → IsReady kept b joining
    → (at : ℕ) × (top : Block) × (tip_place kept ≡ Some at) × (block_at kept at ≡ Some top)
some-tip kept b joining ready =
    let below = place_of-below kept b.header.parent_hash joining.entry.parent ready.entry.on_kept in
    let at = tip_place-there kept (omega (arith, below)) in
    let top = slice_get-below kept at.0 (tip_place-below kept at.0 at.1) in
    (at.0, top.0, at.1, top.1)

pub rows-stay : (kept : List Block) (b : Block) (joining : Joining) (cells : OutPoint → Option Row) → IsReady kept b joining
    → becomes_tip kept (Joins joining) ≡ false → AreRowsOfTip kept cells → AreRowsOfTip (kept ++ b ∷ []) cells
rows-stay kept b joining cells ready low live =
    let top = some-tip kept b joining ready in
    stays_at kept b top.0 top.1 top.2 top.3 joining ready cells low live

pub move-else : {E : Type 0} (kept : List Block) (b : Block) (joining : Joining) (place : ℕ) (cells : StateValue) (result : Result StateValue E)
    → IsKept kept → IsReady kept b joining → place ≡ length kept → becomes_tip kept (Joins joining) ≡ true → AreRowsOfBranch kept joining.entry.parent (rows cells)
    → IfOk result (λ next. Grows b place cells next) → IfOk result (λ next. AreRowsOfTip (kept ++ b ∷ []) (rows next))
move-else kept b joining place cells (Ok next) is_kept ready long high same grows =
    let top = some-tip kept b joining ready in
    moves_to kept b top.0 top.1 top.2 top.3 joining ready place cells next is_kept long high same grows
move-else kept b joining place cells (Err stop) is_kept ready long high same grows = tt

-- ---- The index with one more block

pub hash-new : (kept : List Block) (entries : List Entry) (b : Block) (joining : Joining) → IndexesBlocks kept entries → IsReady kept b joining
    → place_of_hash entries joining.entry.hash ≡ None
hash-new kept entries b joining indexed ready =
    ap (place_of_hash entries) ready.entry.describes.hash ∙ find-same kept entries (block_hash b) indexed ∙ ready.entry.new

pub follows-parent : (kept : List Block) (entries : List Entry) (b : Block) (joining : Joining) (entry : Entry) → IndexesBlocks kept entries → IsReady kept b joining
    → entry.parent ≡ joining.entry.parent → entry.number ≡ joining.entry.number → FollowsParent entries entry
follows-parent kept entries b joining entry indexed ready parent number =
    let below : joining.entry.parent < length entries =
    omega (arith, place_of-below kept b.header.parent_hash joining.entry.parent ready.entry.on_kept, len-same kept entries indexed) in
    let found = slice_get-below entries joining.entry.parent below in
    let described = some_block (block_at kept joining.entry.parent) (λ block. Describes block found.0)
    (entry-same kept entries joining.entry.parent found.0 indexed found.1) in
    and_some (entry_at entries entry.parent) (λ on. entry.number ≡ on.number + 1) found.0 (ap (entry_at entries) parent ∙ found.1)
    (number ∙ ready.entry.describes.number ∙ next-number kept b joining described.0 ready described.1 ∙ ap (λ (n : ℕ). n + 1) (sym described.2.number))

-- its DAO field is rated
pub rated-push : (entries : List Entry) (b : Block) (entry : Entry) → AreRated entries → Describes b entry → IsTrue (is_rated b.header.dao)
    → AreRated (entries ++ entry ∷ [])
rated-push entries b entry rated describes is place other there = by_place (slice_get-pushed entries entry place other there)
  where
    by_place : ((place < length entries) × (slice_get entries place ≡ Some other)) ⊎ ((place ≡ length entries) × (entry ≡ other))
        → IsTrue (is_rated other.dao)
    by_place (inl before) = rated place other before.1
    by_place (inr last) =
        subst (λ (e : Entry). IsTrue (is_rated e.dao)) last.1 (subst (λ (dao : List ℕ). IsTrue (is_rated dao)) (sym describes.dao) is)

-- the uncles of blocks and one more
embedded-from-push : (kept : List Block) (b : Block) (place : ℕ) → embedded_from place (kept ++ b ∷ []) ≡ embedded_from place kept ++ embedded_in (place + length kept) b
unfolding embedded_from
embedded-from-push [] b place = append-nil (embedded_in place b) ∙ ap (λ (p : ℕ). embedded_in p b) (omega arith)
embedded-from-push (first ∷ later) b place =
    ap (λ (es : List Embedded). embedded_in place first ++ es) (embedded-from-push later b (suc place))
    ∙ sym (append_assoc (embedded_in place first) (embedded_from (suc place) later) (embedded_in (suc place + length later) b))
    ∙ ap (λ (p : ℕ). (embedded_in place first ++ embedded_from (suc place) later) ++ embedded_in p b) (omega arith)

pub uncles-push : (kept : List Block) (b : Block) (place : ℕ) (old new : List Embedded) → place ≡ length kept → old ≡ embedded_from 0 kept
    → new ≡ old ++ embedded_in place b → new ≡ embedded_from 0 (kept ++ b ∷ [])
uncles-push kept b place old new long was is =
    is ∙ ap (λ (es : List Embedded). es ++ embedded_in place b) was ∙ ap (λ (p : ℕ). embedded_from 0 kept ++ embedded_in p b) (omega (arith, long))
    ∙ sym (embedded-from-push kept b 0)

-- ---- Counts

not_many : (count : ℕ) → count ≤ kept_limit → count + 1 < 2 ^ 24
unfolding kept_limit
not_many count few = omega (arith, few)

pub few-kept : (count : ℕ) → count ≤ kept_limit → count + 1 < 2 ^ 32
few-kept count few = omega (arith, not_many count few)

pub few-heights : (count : ℕ) → count ≤ kept_limit → count < 2 ^ 24
few-heights count few = omega (arith, not_many count few)

-- ---- What fits

branch-some : (kept : List Block) (place : ℕ) → place < length kept → 0 < length (branch kept place)
branch-some kept place below =
    let here = slice_get-below kept place below in
    let within = slice_get_within (branch kept place) (length (branch kept place) - 1) here.0 (branch-last kept place below ∙ here.1) in
    omega (arith, within)

-- A block that may join fits its parent's cells.
pub record FitsOn (kept : List Block) (b : Block) (parent : ℕ) : Type 0 where
  pub height : ℕ
  pub above : 0 < height
  pub fits : AllFit (events_of_block height b) (are_live (live_cell (branch kept parent)))

pub fits-on : (chain : Chain) (b : Block) (joining : Joining) → MayJoin chain.spec chain.blocks b → IsReady chain.blocks b joining
    → FitsOn chain.blocks b joining.entry.parent
fits-on chain b joining may ready =
    let same : may.parent ≡ joining.entry.parent = same_Some may.parent joining.entry.parent (sym may.on_kept ∙ ready.entry.on_kept) in
    record {
      height = length (branch chain.blocks may.parent);
      above = branch-some chain.blocks may.parent (place_of-below chain.blocks b.header.parent_hash may.parent may.on_kept);
      fits = subst (λ (p : ℕ). AllFit (events_of_block (length (branch chain.blocks may.parent)) b) (are_live (live_cell (branch chain.blocks p)))) same
          (what-joins-fits chain b may);
    }

-- ---- All that is kept with one more block

-- the item is the encoding of the block that is ready
pub ready-for : (kept : List Block) (item : List ℕ) (b : Block) (joining : Joining) → ((x : Block) × (decoded block item ≡ Some x) × IsReady kept x joining)
    → decoded block item ≡ Some b → IsReady kept b joining
ready-for kept item b joining (x, is, ready) found = subst (λ (y : Block). IsReady kept y joining) (same_Some x b (sym is ∙ found)) ready

-- and what is seen of it is that block
pub seen-block : (kept : List Block) (item : List ℕ) (seen : Block) (joining : Joining) → ((x : Block) × (decoded block item ≡ Some x) × IsReady kept x joining)
    → ((x : Block) → IsEncoding block item x → seen ≡ x) → decoded block item ≡ Some seen
seen-block kept item seen joining (x, is, ready) same = is ∙ ap Some (sym (same x (IsEncoding-decoded block item x is)))

-- an entry with the record's name
pub describes-named : (b : Block) (entry named : Entry) → Describes b entry → named.hash ≡ entry.hash → named.number ≡ entry.number
    → named.timestamp ≡ entry.timestamp → named.dao ≡ entry.dao → Describes b named
describes-named b entry named is hash number timestamp dao = record {
  hash = hash ∙ is.hash;
  number = number ∙ is.number;
  timestamp = timestamp ∙ is.timestamp;
  dao = dao ∙ is.dao;
}

pub blocks-push : (stored after : List Stored) (b : Block) (ext : List ℕ) → after ≡ stored ++ record { block = b; ext = ext } ∷ []
    → blocks_of after ≡ blocks_of stored ++ b ∷ []
blocks-push stored after b ext is = ap blocks_of is ∙ map-append (λ (it : Stored). it.block) stored (record { block = b; ext = ext } ∷ [])

exts-push : (stored after : List Stored) (b : Block) (ext : List ℕ) → after ≡ stored ++ record { block = b; ext = ext } ∷ []
    → exts_of after ≡ exts_of stored ++ ext ∷ []
exts-push stored after b ext is = ap exts_of is ∙ map-append (λ (it : Stored). it.ext) stored (record { block = b; ext = ext } ∷ [])

pub kept-push : (spec : Specification) (stored after : List Stored) (entries later : List Entry) (b : Block) (ext : List ℕ) (entry : Entry) (kept : KeptValue)
    → kept_of spec stored entries ≡ kept → after ≡ stored ++ record { block = b; ext = ext } ∷ [] → later ≡ entries ++ entry ∷ []
    → kept_of spec after later ≡ kept_with kept b ext entry
kept-push spec stored after entries later b ext entry kept whole is entered =
    let blocks = blocks-push stored after b ext is in
    let exts = exts-push stored after b ext is in
    subst (λ (v : KeptValue). kept_of spec after later ≡ kept_with v b ext entry) whole
    (λ i. record { chain = record { spec = spec; blocks = blocks i }; exts = exts i; entries = entered i })

-- its ext counts its fees
counted-push : (stored after : List Stored) (b : Block) (ext item : List ℕ) → CountFees stored → decoded block item ≡ Some b → IsExtFor item ext
    → after ≡ stored ++ record { block = b; ext = ext } ∷ [] → CountFees after
counted-push stored after b ext item counted is for grown place it above there =
    by_place (slice_get-pushed stored (record { block = b; ext = ext }) place it (ap (λ (l : List Stored). slice_get l place) (sym grown) ∙ there))
  where
    own : count_at ext 0 ≡ length b.transactions - 1
    own = subst (λ (o : Option Block). IfSome o (λ x. count_at ext 0 ≡ length x.transactions - 1)) is for.fees

    by_place : ((place < length stored) × (slice_get stored place ≡ Some it)) ⊎ ((place ≡ length stored) × (record { block = b; ext = ext } ≡ it))
        → count_at it.ext 0 ≡ length it.block.transactions - 1
    by_place (inl before) = counted place it above before.1
    by_place (inr last) = subst (λ (x : Stored). count_at x.ext 0 ≡ length x.block.transactions - 1) last.1 own

pub are-kept-push : (stored after : List Stored) (entries later : List Entry) (index next : UnclesValue) (b : Block) (ext item : List ℕ) (joining : Joining)
    (entry : Entry) (place : ℕ) → AreKept stored entries index → IsReady (blocks_of stored) b joining
    → decoded block item ≡ Some b → IsExtFor item ext
    → after ≡ stored ++ record { block = b; ext = ext } ∷ [] → later ≡ entries ++ entry ∷ [] → Describes b entry → IndexesBlocks (blocks_of stored ++ b ∷ []) later
    → place ≡ length (blocks_of stored) → next.embedded ≡ index.embedded ++ embedded_in place b
    → AreKept after later next
are-kept-push stored after entries later index next b ext item joining entry place are ready is for grown entered describes indexed at uncles =
    let blocks : blocks_of after ≡ blocks_of stored ++ b ∷ [] = blocks-push stored after b ext grown in
    record {
      indexed = subst (λ (bs : List Block). IndexesBlocks bs later) (sym blocks) indexed;
      uncles = uncles-push (blocks_of stored) b place index.embedded next.embedded at are.uncles uncles
          ∙ ap (embedded_from 0) (sym blocks);
      canonical = subst AreCanonical (sym blocks) (canonical-push (blocks_of stored) b item are.canonical is);
      rated = subst AreRated (sym entered) (rated-push entries b entry are.rated describes ready.rated);
      counted = counted-push stored after b ext item are.counted is for grown;
      few = omega (arith, ready.room, ap length grown, length_push stored (record { block = b; ext = ext }), length-map stored (λ (it : Stored). it.block));
    }
