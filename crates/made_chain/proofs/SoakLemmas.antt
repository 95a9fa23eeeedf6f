-- Sessions that all import the same items, one after the other.
use Rattle.std.proofs.Common.{◌≡◌, ℕ, zero, suc, ◌+◌, ◌-◌, ◌*◌, ◌<◌, ◌≤◌, List, [], ◌∷◌, ◌++◌, length, take, max, get_or, replicate, Vec, Global, refl, sym, ap, ◌∙◌, subst, arith}
use Rattle.std.specs.Prelude.{Result, IfOk}
use Rattle.std.specs.List.{filter}
use Rattle.std.proofs.lemmas.List.{take_all, length-map}
use Rattle.std.proofs.lemmas.List.FromFn.{length-map-range_with_len}
use Rattle.std.proofs.lemmas.Result.{IfOk-weaker}
use Rattle.chain_defs.specs.Shape.{encoded}
use Rattle.chain_defs.specs.Schema as schema
use Rattle.chain_defs.specs.Tip.{tip, best_branch}
use Rattle.chain_defs.specs.Events.{events}
use Rattle.verdict_defs.specs.Verdict.{joins}
use Rattle.verdict_defs.specs.Chain.{Chain, verdicts_over, chain_over, chain_of_genesis}
use Rattle.gen_defs.specs.Start as start
use Rattle.gen_defs.specs.Chain.{block_made, blocks_made}
use Rattle.report_defs.specs.declared.counts.Counts.{Counts}
use Rattle.chain_defs.specs.LiveCells.{live_cells}
use Rattle.report_defs.specs.Simulation.{height_of, counts_over, generated_items, AreSoakCounts}
use Rattle.report_defs.specs.SoakLaws.{NamesNoLater, PrefixesReplay, GeneratedNameNoLater, JoinedAreCounted}
use Rattle.made_chain.specs.Sessions.{items_in, IsKeptAfter}
use Rattle.made_chain.specs.Soak.{last_acked, IsPlayed}
use Rattle.made_chain.proofs.ImportLemmas.{counts-are}

-- the last entry of a list that is not empty
pub last-entry : (acked : List ℕ) (any : ℕ) → 0 < length acked → get_or acked (length acked - 1) any ≡ last_acked acked
last-entry [] any some = absurd (omega (arith, some))
last-entry (one ∷ []) any some = refl
last-entry (one ∷ next ∷ later) any some =
    let place : length (one ∷ next ∷ later) - 1 ≡ suc (length (next ∷ later) - 1) = omega arith in
    ap (λ (i : ℕ). get_or (one ∷ next ∷ later) i any) place ∙ last-entry (next ∷ later) any (omega arith)

-- What sessions leave of what a prefix left, where the last of them is whole, is what one import leaves.
replayed : PrefixesReplay → (chain kept : Chain) (items : List (List ℕ)) → NamesNoLater items → (n m : ℕ) (acked : List ℕ)
    → IsKeptAfter (chain_over chain (take m items)) (replicate (suc n) items) acked kept → length items ≤ last_acked acked → kept ≡ chain_over chain items
replayed law chain kept items names n m [] is whole = absurd is
replayed law chain kept items names zero m (one ∷ []) (count, within, is) whole =
    is ∙ law chain items m count names
    ∙ ap (chain_over chain) (take_all (max m count) items (omega (arith, whole, within.acknowledged)))
replayed law chain kept items names zero m (one ∷ next ∷ later) (count, within, is) whole = absurd is
replayed law chain kept items names (suc n) m (one ∷ []) (count, within, is) whole = absurd is
replayed law chain kept items names (suc n) m (one ∷ next ∷ later) (count, within, rest) whole =
    replayed law chain kept items names n (max m count) (next ∷ later)
    (subst (λ (c : Chain). IsKeptAfter c (replicate (suc n) items) (next ∷ later) kept) (law chain items m count names) rest) whole

pub played-whole : PrefixesReplay → (chain kept : Chain) (items : List (List ℕ)) (lists : List (List (List ℕ))) (n : ℕ) → NamesNoLater items
    → lists ≡ replicate (n + 2) items → IsPlayed chain lists (length items) kept → kept ≡ chain_over chain items
played-whole law chain kept items lists n names are played =
    let some : n + 2 ≡ suc (n + 1) = omega arith in
    let same : lists ≡ replicate (suc (n + 1)) items = are ∙ ap (λ (k : ℕ). replicate k items) some in
    replayed law chain kept items names (n + 1) 0 played.acked
    (subst (λ (l : List (List (List ℕ))). IsKeptAfter chain l played.acked kept) same played.kept_after) played.whole

-- one list more of the same items
pub replicate-push : {X : Type 0} (n : ℕ) (x : X) → replicate n x ++ x ∷ [] ≡ replicate (n + 1) x
replicate-push {X} zero x = refl
replicate-push {X} (suc n) x =
    let more : suc n + 1 ≡ suc (n + 1) = omega arith in
    ap (λ (l : List X). x ∷ l) (replicate-push n x) ∙ ap (λ (k : ℕ). replicate k x) (sym more)

-- ---- What is counted after them

-- of a chain as it was at first and as it is now
abbrev pub counts_of_kept : ℕ → Chain → Counts
counts_of_kept joined kept = record {
  joined = joined;
  height = height_of (tip kept.blocks);
  cells = length (live_cells (events (best_branch kept.blocks)));
}

counts-soaked : JoinedAreCounted → (chain kept : Chain) (items : List (List ℕ)) (joined : ℕ) → kept ≡ chain_over chain items
    → joined ≡ length kept.blocks - length chain.blocks → counts_of_kept joined kept ≡ counts_over chain items
counts-soaked law chain kept items joined is counted =
    let more = law chain items in
    let size = ap (λ (k : Chain). length k.blocks) is in
    let all : joined ≡ length (filter joins (verdicts_over chain items)) = omega (arith, counted, more, size) in
    ap (counts_of_kept joined) is ∙ ap (λ (n : ℕ). counts_of_kept n (chain_over chain items)) all

pub counts-played : {E : Type 0} → PrefixesReplay → JoinedAreCounted → (first chain kept now : Chain) (blocks : List (Vec ℕ Global)) (lists : List (List (List ℕ)))
    → (size joined : ℕ) (result : Result Counts E) → chain ≡ first → lists ≡ replicate (4 * length blocks + 2) (items_in blocks) → size ≡ length blocks
    → IsPlayed chain lists size kept → now ≡ kept → joined ≡ length now.blocks - length chain.blocks → IfOk result (λ counts. counts ≡ counts_of_kept joined now)
    → IfOk result (λ counts. NamesNoLater (items_in blocks) → counts ≡ counts_over first (items_in blocks))
counts-played replay law first chain kept now blocks lists size joined result opened are many played reopened counted all =
    let items : List (List ℕ) = items_in blocks in
    let same : length items ≡ length blocks = length-map blocks (λ (bytes : Vec ℕ Global). bytes.items) in
    let whole = subst (λ (n : ℕ). IsPlayed chain lists n kept) (many ∙ sym same) played in
    IfOk-weaker result _ _ (λ counts is names.
    is ∙ counts-soaked law chain now items joined (reopened ∙ played-whole replay chain kept items lists (4 * length blocks) names are whole) counted
    ∙ ap (λ (k : Chain). counts_over k items) opened) all

-- of the chain of a seed
pub counts-generated : {E : Type 0} → GeneratedNameNoLater → (seed count : ℕ) (spec genesis : List ℕ) (items : List (List ℕ)) (result : Result Counts E)
    → spec ≡ start.specification_bytes start.specification → genesis ≡ encoded schema.block start.genesis → items ≡ generated_items seed count
    → IfOk result (λ counts. NamesNoLater items → counts ≡ counts_over (chain_of_genesis spec genesis) items) → IfOk result (λ counts. AreSoakCounts seed count counts)
counts-generated law seed count spec genesis items result spec_is genesis_is items_are all =
    IfOk-weaker result _ _ (λ counts is differ.
    is (subst NamesNoLater (sym items_are) (law seed count differ)) ∙ counts-are spec genesis items seed count spec_is genesis_is items_are) all

pub as-many-generated : (seed count : ℕ) (blocks : List (Vec ℕ Global)) → items_in blocks ≡ generated_items seed count → length blocks ≡ count
unfolding blocks_made
as-many-generated seed count blocks are =
    sym (length-map blocks (λ (bytes : Vec ℕ Global). bytes.items)) ∙ ap (λ (l : List (List ℕ)). length l) are
    ∙ length-map (blocks_made seed count) (encoded schema.block) ∙ length-map-range_with_len (block_made seed) 1 count
