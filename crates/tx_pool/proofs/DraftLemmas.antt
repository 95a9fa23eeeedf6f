-- What the block so far stands for after each step.
use Rattle.std.proofs.Common.{◌≡◌, ℕ, ◌+◌, ◌-◌, ◌^◌, ◌<◌, ◌≤◌, ℤ, ◌+ℤ◌, Bool, true, false, cond, not, ◌&&◌, ◌||◌, List, [], ◌∷◌, ◌++◌, length, map, take, replicate, eq-eqb, ◌==◌, ◌⊎◌, inl, inr, get_or, Vec, Global, Option, Some, None, refl, sym, ap, ◌∙◌, subst, arith}
use Rattle.std.specs.Prelude.{IsOkAnd, IsTrue, Result, nat_le}
use Rattle.std.specs.List.{AllByRecursion, list_any}
use Rattle.std.specs.Str.{bytes_eq}
use Rattle.std.proofs.lemmas.Bool.{le-leb, lt-leb}
use Rattle.std.proofs.lemmas.List.{length_push, map-append, take_all, take_more}
use Rattle.chain_defs.specs.Shape.{IsEncoding, encoded, decoded}
use Rattle.chain_defs.specs.Schema.{OutPoint, Transaction, Block, CellbaseWitness, transaction}
use Rattle.chain_defs.specs.First.{first_failing}
use Rattle.chain_defs.specs.Fold.{keep}
use Rattle.chain_defs.proofs.FoldLemmas.{keep-push}
use Rattle.chain_defs.specs.Specification.{Specification}
use Rattle.chain_defs.specs.Branch.{branch}
use Rattle.chain_defs.specs.Median.{median_time}
use Rattle.chain_defs.specs.Hashes.{transaction_hash, proposal_id, are_distinct}
use Rattle.chain_tree.specs.Told.{Stored, blocks_of}
use Rattle.chain_defs.specs.Row.{Row, row_after}
use Rattle.chain_defs.specs.Events.{events_of}
use Rattle.rule_defs.specs.Cellbase.{null_index, is_cellbase, begins_with_cellbase, has_cellbase}
use Rattle.rule_defs.specs.Body.{fits_length, has_proposals}
use Rattle.rule_defs.specs.Capacity as capacity
use Rattle.verdict_defs.specs.Transactions.{is_proposed, transaction_rules}
use Rattle.block_judge.specs.Appending as appending
use Rattle.block_judge.specs.Appending.{SeesSoFar}
use Rattle.block_judge.specs.Answers.{IsPassed, StopsAs}
use Rattle.block_judge.specs.Progress.{AreMoved, AreProposed, CanMove}
use Rattle.block_judge.specs.Standing.{ContextValue, ContextStandsFor}
use Rattle.rule_defs.specs.RuleNumber.{rule_number}
use Rattle.rule_defs.specs.declared.rule.Rule.{Rule}
use Rattle.block_judge.specs.declared.stop.JudgeStop.{JudgeStop}
use Rattle.block_judge.specs.declared.stop.JudgeStop.TheVariants.{Broken}
use Rattle.block_judge.specs.declared.transactions.PassedTransaction.{PassedTransaction}
use Rattle.block_judge.proofs.MovedLemmas.{can-move-none}
use Rattle.verdict_defs.specs.Judged.{Passed, judged, judged_alone, passed_at}
use Rattle.verdict_defs.proofs.JudgedLemmas.{judged-breaks-first, judged-passes-by, judged-proposed}
use Rattle.pool_defs.specs.Size.{size_with}
use Rattle.pool_defs.specs.Start as start
use Rattle.pool_defs.specs.Start.{cellbase, header_after, next_timestamp}
use Rattle.pool_defs.specs.Assembly as pool
use Rattle.pool_defs.specs.Assembly.{Assembly, take_item}
use Rattle.pool_defs.specs.declared.line.Line.{Line}
use Rattle.pool_defs.specs.declared.line.Line.TheVariants.{Commit, Propose, Refused, Later}
use Rattle.pool_defs.proofs.GrowthLemmas.{size-transaction, size-id, counted-size, cellbase-grows, proposals-grow, distinct-push}
use Rattle.pool_defs.specs.Size.{most_items}
use Rattle.tx_pool.specs.Draft.{DraftValue, Fits, IsEmpty, IsPut, IsDraftSoFar, has, so_far_in, with_line}
use Rattle.tx_pool.proofs.GrownLemmas.{each-push, has-push, has-hash-push, moved-push, moved-same, moved-nothing, sees-push, sees-none}

-- ---- What each draft keeps

pub can-move-as : (count other : ℕ) (interest next : ℤ) (freed more : ℕ) → other ≡ count → next ≡ interest → more ≡ freed → CanMove count interest freed
    → CanMove other next more
can-move-as count other interest next freed more counted withdraws frees can =
    subst (λ (n : ℕ). CanMove n next more) (sym counted)
    (subst (λ (z : ℤ). CanMove count z more) (sym withdraws) (subst (λ (n : ℕ). CanMove count interest n) (sym frees) can))

-- with a proposal id more
pub fits-proposed : (draft after : DraftValue) (id : List ℕ) (line : Line) (most : ℕ) → Fits draft → after.transactions ≡ draft.transactions
    → after.proposals ≡ draft.proposals ++ id ∷ [] → after.length ≡ draft.length + 10 → after.length ≤ most → most < 2 ^ 32 → after.left ≡ draft.left
    → after.interest ≡ draft.interest → after.freed ≡ draft.freed → after.lines ≡ draft.lines → Fits (with_line after line)
fits-proposed draft after id line most fits txs ids longer within small left interest freed lines =
    let more = length_push after.lines line in
    let same_lines = ap length lines in
    let same_txs = ap length txs in
    let few = fits.few in
    let there = fits.some in
    let cycles = fits.left in record {
      some = omega (arith, there, same_txs);
      few = omega (arith, more, few, same_lines, same_txs);
      length_is = longer ∙ ap (λ (n : ℕ). n + 10) fits.length_is ∙ sym (size-id draft.transactions draft.proposals id)
          ∙ ap (size_with draft.transactions) (sym ids) ∙ ap (λ (them : List Transaction). size_with them after.proposals) (sym txs);
      short = omega (arith, within, small);
      left = omega (arith, left, cycles);
      moves = can-move-as (length draft.transactions) (length after.transactions) draft.interest after.interest draft.freed after.freed same_txs interest freed fits.moves;
    }

-- with a transaction more
pub fits-committed : (draft put after : DraftValue) (e : ℕ) (t : Transaction) (line : Line) (most cycles : ℕ) → Fits draft → IsPut e t draft put
    → after ≡ record put { left = put.left - cycles; interest = after.interest; freed = after.freed } → draft.length + (4 + length (encoded transaction t)) ≤ most
    → most < 2 ^ 32 → CanMove (length draft.transactions + 1) after.interest after.freed → Fits (with_line after line)
fits-committed draft put after e t line most cycles fits is_put same within small moves =
    let more = length_push after.lines line in
    let same_lines = ap (λ (it : DraftValue). length it.lines) same ∙ ap length is_put.lines in
    let same_txs = ap (λ (it : DraftValue). length it.transactions) same ∙ ap length is_put.transactions ∙ length_push draft.transactions t in
    let length_of = ap (λ (it : DraftValue). it.length) same ∙ is_put.length_is in
    let left_of = ap (λ (it : DraftValue). it.left) same in
    let left_before = is_put.left in
    let few = fits.few in
    let left = fits.left in record {
      some = omega (arith, same_txs);
      few = omega (arith, more, few, same_lines, same_txs);
      length_is = length_of ∙ ap (λ (n : ℕ). n + (4 + length (encoded transaction t))) fits.length_is ∙ sym (size-transaction draft.transactions t draft.proposals)
          ∙ ap (size_with (draft.transactions ++ t ∷ [])) (sym (ap (λ (it : DraftValue). it.proposals) same ∙ is_put.proposals))
          ∙ ap (λ (them : List Transaction). size_with them after.proposals) (sym (ap (λ (it : DraftValue). it.transactions) same ∙ is_put.transactions));
      short = omega (arith, length_of, within, small);
      left = omega (arith, left_of, left_before, left);
      moves = can-move-as (length draft.transactions + 1) (length after.transactions) after.interest after.interest after.freed after.freed same_txs refl refl moves;
    }

empty-size : size_with [] [] ≡ 240
unfolding size_with
empty-size = refl

pub fits-started : (spec : Specification) (timestamp : ℕ) (base : OutPoint → Option Row) (draft put : DraftValue) (e : ℕ) (t : Transaction)
    → IsEmpty spec timestamp base draft → IsPut e t draft put
    → length (encoded transaction t) < 2 ^ 30 → draft.left ≤ 2 ^ 40 → Fits put
fits-started spec timestamp base draft put e t empty is_put size few =
    let txs : put.transactions ≡ t ∷ [] = is_put.transactions ∙ ap (λ (them : List Transaction). them ++ t ∷ []) empty.transactions in
    let alone : length put.transactions ≡ 1 = ap length txs in
    let length_of = is_put.length_is in
    let begun = empty.length_is in
    let left_of = is_put.left in record {
      some = omega (arith, alone);
      few = omega (arith, alone);
      length_is = is_put.length_is ∙ ap (λ (n : ℕ). n + (4 + length (encoded transaction t))) (empty.length_is ∙ sym empty-size)
          ∙ sym (size-transaction [] t []) ∙ ap (size_with (t ∷ [])) (sym (is_put.proposals ∙ empty.proposals))
          ∙ ap (λ (them : List Transaction). size_with them put.proposals) (sym txs);
      short = omega (arith, length_of, begun, size);
      left = omega (arith, left_of, few);
      moves = can-move-none (length put.transactions) put.interest put.freed (is_put.interest ∙ empty.interest) (is_put.freed ∙ empty.freed);
    }

-- ---- What it stands for

same-cellbase : (b other : Block) → b.transactions ≡ other.transactions → has_cellbase b ≡ has_cellbase other
unfolding has_cellbase
same-cellbase b other same =
    ap (λ (txs : List Transaction). begins_with_cellbase txs && are_distinct (map transaction_hash txs)) same

one-alone : (b : Bool) → b ≡ (b || false)
one-alone true = refl
one-alone false = refl

none : (b : Bool) → (b && false) ≡ false
none true = refl
none false = refl

pub or-cond : (known more : Bool) → cond more true known ≡ (known || more)
or-cond true true = refl
or-cond true false = refl
or-cond false true = refl
or-cond false false = refl

not-not : (b : Bool) → not (not b) ≡ b
not-not true = refl
not-not false = refl

-- An item that changes nothing but for its line.
pub so-far-line : (stored : List Stored) (on : ContextValue) (so_far : Assembly) (draft : DraftValue) (line : Line) → IsDraftSoFar stored on so_far draft
    → IsDraftSoFar stored on (pool.with_line so_far line) (with_line draft line)
so-far-line stored on so_far draft line is = record {
  timestamp_is = is.timestamp_is;
  sees = is.sees;
  fills = is.fills;
  begins = is.begins;
  distinct = is.distinct;
  ids_fit = is.ids_fit;
  hashes_are = is.hashes_are;
  ids_are = is.ids_are;
  left_is = is.left_is;
  moved = is.moved;
  lines_are = ap (λ (lines : List Line). lines ++ line ∷ []) is.lines_are;
}

pub so-far-as : (stored : List Stored) (on : ContextValue) (so_far all : Assembly) (draft : DraftValue) → all ≡ so_far → IsDraftSoFar stored on so_far draft
    → IsDraftSoFar stored on all draft
so-far-as stored on so_far all draft same is = subst (λ (it : Assembly). IsDraftSoFar stored on it draft) (sym same) is

-- one that is answered by a line alone
pub so-far-answered : (stored : List Stored) (on : ContextValue) (so_far all : Assembly) (draft : DraftValue) (line : Line) → all ≡ pool.with_line so_far line
    → IsDraftSoFar stored on so_far draft → IsDraftSoFar stored on all (with_line draft line)
so-far-answered stored on so_far all draft line same is =
    so-far-as stored on (pool.with_line so_far line) all (with_line draft line) same (so-far-line stored on so_far draft line is)

-- ---- The start

pub alone-begins : (b : Block) (t : Transaction) → b.transactions ≡ t ∷ [] → is_cellbase t ≡ true → has_cellbase b ≡ true
unfolding has_cellbase
alone-begins b t alone is =
    ap (λ (txs : List Transaction). begins_with_cellbase txs && are_distinct (map transaction_hash txs)) alone
    ∙ ap (λ (test : Bool). (test && true) && true) is

no-output : (index : ℕ) → (bytes_eq (replicate 32 0) (replicate 32 0) && (index == index)) ≡ true
no-output index = eq-eqb index index refl

start-is-cellbase : (spec : Specification) (on : List Block) (witness : CellbaseWitness) → is_cellbase (start.cellbase spec on witness) ≡ true
unfolding cellbase
start-is-cellbase spec on witness = no-output null_index

-- the header's timestamp
header-time : (spec : Specification) (on : List Block) → (header_after spec on).timestamp ≡ next_timestamp (median_time on)
unfolding header_after
header-time spec on = refl

pub started-so-far : (stored : List Stored) (on : ContextValue) (witness : CellbaseWitness) (timestamp e : ℕ) (t : Transaction) (draft put : DraftValue)
    → on.parent < length on.entries → timestamp ≡ next_timestamp (median_time (branch (blocks_of stored) on.parent)) → e ≡ length on.entries
    → ContextStandsFor stored on → IsEmpty on.spec timestamp on.rows draft → IsPut e t draft put
    → t ≡ start.cellbase on.spec (branch (blocks_of stored) on.parent) witness
    → IsDraftSoFar stored on (pool.start on.spec (branch (blocks_of stored) on.parent) witness) put
started-so-far stored on witness timestamp e t draft put placed time last stands empty is_put same =
    let alone : put.transactions ≡ start.cellbase on.spec (branch (blocks_of stored) on.parent) witness ∷ [] =
    is_put.transactions ∙ ap (λ (them : List Transaction). them ++ t ∷ []) empty.transactions ∙ ap (λ (it : Transaction). it ∷ []) same in record {
      timestamp_is = is_put.timestamp ∙ empty.timestamp_is ∙ time ∙ sym (header-time on.spec (branch (blocks_of stored) on.parent));
      sees = subst (λ (it : Transaction). SeesSoFar stored on (so_far_in put (it ∷ []))) same
          (sees-push stored on (so_far_in (record put { rows = draft.rows }) []) t e put.rows placed last (sees-none stored on put.timestamp draft.rows stands empty.rows)
          (λ height o above. is_put.rows height o above ∙ ap (λ (txs : List Transaction). row_after e (events_of t height (length txs)) draft.rows o) empty.transactions));
      fills = record { header_is = refl; no_uncles = refl; transactions_are = alone; ids_are = is_put.proposals ∙ empty.proposals };
      begins = alone-begins _ _ refl (start-is-cellbase on.spec (branch (blocks_of stored) on.parent) witness);
      distinct = refl;
      ids_fit = tt;
      hashes_are = λ hash. is_put.hashes hash ∙ ap (λ (b : Bool). b || bytes_eq (transaction_hash t) hash) (empty.hashes hash)
          ∙ ap (λ (it : Transaction). bytes_eq (transaction_hash it) hash) same ∙ one-alone (bytes_eq (transaction_hash (start.cellbase on.spec (branch (blocks_of stored) on.parent) witness)) hash);
      ids_are = λ id. is_put.ids id ∙ empty.ids id;
      left_is = is_put.left ∙ empty.left;
      moved = moved-nothing on.spec (branch (blocks_of stored) on.parent) _ (start.cellbase on.spec (branch (blocks_of stored) on.parent) witness) put.interest put.freed refl
          (is_put.interest ∙ empty.interest) (is_put.freed ∙ empty.freed);
      lines_are = is_put.lines ∙ empty.lines;
    }

-- ---- Each step

module _ (stored : List Stored) (on : ContextValue) (so_far : Assembly) (draft : DraftValue) (is : IsDraftSoFar stored on so_far draft) (fits : Fits draft) where
  abbrev on_branch : List Block
  on_branch = branch (blocks_of stored) on.parent

  size-is : size_with so_far.block.transactions so_far.block.proposals ≡ draft.length
  size-is = sym (fits.length_is ∙ ap (λ (txs : List Transaction). size_with txs draft.proposals) is.fills.transactions_are
      ∙ ap (size_with so_far.block.transactions) is.fills.ids_are)

  some : 0 < length so_far.block.transactions
  some = let there = fits.some in let same = ap length is.fills.transactions_are in omega (arith, there, same)

  -- ---- One proposal id more

  each-ten : (id : List ℕ) → length id ≡ 10 → AllByRecursion (λ it. length it ≡ 10) (so_far.block.proposals ++ id ∷ [])
  each-ten id ten = each-push (λ it. length it ≡ 10) so_far.block.proposals id is.ids_fit ten

  id-fits : (id : List ℕ) → length id ≡ 10 → fits_length on.spec (pool.with_proposal so_far.block id) ≡ nat_le (draft.length + 10) on.spec.max_block_bytes
  id-fits id ten = ap (λ (n : ℕ). nat_le n on.spec.max_block_bytes)
      (counted-size on.spec on_branch (pool.with_proposal so_far.block id) is.fills.header_is is.fills.no_uncles (each-ten id ten)
      ∙ size-id so_far.block.transactions so_far.block.proposals id
      ∙ ap (λ (n : ℕ). n + 10) size-is)

  ids-fit : (id : List ℕ) → has_proposals on.spec (pool.with_proposal so_far.block id)
      ≡ (nat_le (length draft.proposals + 1) on.spec.max_proposals && not (draft.has_id id))
  ids-fit id =
      proposals-grow on.spec so_far.block id
      ∙ ap (λ (all : Bool). nat_le (length so_far.block.proposals + 1) on.spec.max_proposals && (all && not (has_among id))) is.distinct
      ∙ ap (λ (among : Bool). nat_le (length so_far.block.proposals + 1) on.spec.max_proposals && not among) (sym (is.ids_are id))
      ∙ ap (λ (ids : List (List ℕ)). nat_le (length ids + 1) on.spec.max_proposals && not (draft.has_id id)) (sym is.fills.ids_are)
    where
      has_among : List ℕ → Bool
      has_among value = has so_far.block.proposals value

  pub propose-is : (t : Transaction) (id : List ℕ) → id ≡ proposal_id t → length id ≡ 10 → pool.propose on.spec so_far t
      ≡ cond (nat_le (draft.length + 10) on.spec.max_block_bytes && (nat_le (length draft.proposals + 1) on.spec.max_proposals && not (draft.has_id id)))
      (pool.proposed so_far id) (pool.with_line so_far Later)
  propose-is t id same ten =
      ap (λ (it : List ℕ). cond (fits_length on.spec (pool.with_proposal so_far.block it) && has_proposals on.spec (pool.with_proposal so_far.block it))
      (pool.proposed so_far it) (pool.with_line so_far Later)) (sym same)
      ∙ ap (λ (test : Bool). cond (test && has_proposals on.spec (pool.with_proposal so_far.block id)) (pool.proposed so_far id) (pool.with_line so_far Later)) (id-fits id ten)
      ∙ ap (λ (test : Bool). cond (nat_le (draft.length + 10) on.spec.max_block_bytes && test) (pool.proposed so_far id) (pool.with_line so_far Later)) (ids-fit id)

  -- the tests in the order of the code
  pub propose-later : (t : Transaction) (id : List ℕ) → id ≡ proposal_id t → length id ≡ 10
      → (on.spec.max_block_bytes < draft.length + 10) ⊎ ((on.spec.max_proposals < length draft.proposals + 1) ⊎ (draft.has_id id ≡ true))
      → IsDraftSoFar stored on (pool.propose on.spec so_far t) (with_line draft Later)
  propose-later t id same ten why = so-far-answered stored on so_far _ draft Later
      (propose-is t id same ten ∙ ap (λ (test : Bool). cond test (pool.proposed so_far id) (pool.with_line so_far Later)) (tests why)) is
    where
      first : Bool
      first = nat_le (draft.length + 10) on.spec.max_block_bytes

      second : Bool
      second = nat_le (length draft.proposals + 1) on.spec.max_proposals

      tests : (on.spec.max_block_bytes < draft.length + 10) ⊎ ((on.spec.max_proposals < length draft.proposals + 1) ⊎ (draft.has_id id ≡ true))
          → (first && (second && not (draft.has_id id))) ≡ false
      tests (inl past) = ap (λ (b : Bool). b && (second && not (draft.has_id id))) (lt-leb (draft.length + 10) on.spec.max_block_bytes past)
      tests (inr (inl many)) = ap (λ (b : Bool). first && (b && not (draft.has_id id))) (lt-leb (length draft.proposals + 1) on.spec.max_proposals many) ∙ none first
      tests (inr (inr among)) = ap (λ (b : Bool). first && (second && not b)) among ∙ ap (λ (b : Bool). first && b) (none second) ∙ none first

  pub propose-fits : (t : Transaction) (id : List ℕ) → id ≡ proposal_id t → length id ≡ 10 → draft.length + 10 ≤ on.spec.max_block_bytes
      → length draft.proposals + 1 ≤ on.spec.max_proposals → draft.has_id id ≡ false → pool.propose on.spec so_far t ≡ pool.proposed so_far id
  propose-fits t id same ten within few new =
      propose-is t id same ten
      ∙ ap (λ (test : Bool). cond (test && (nat_le (length draft.proposals + 1) on.spec.max_proposals && not (draft.has_id id))) (pool.proposed so_far id) (pool.with_line so_far Later))
      (le-leb (draft.length + 10) on.spec.max_block_bytes within)
      ∙ ap (λ (test : Bool). cond (test && not (draft.has_id id)) (pool.proposed so_far id) (pool.with_line so_far Later))
      (le-leb (length draft.proposals + 1) on.spec.max_proposals few)
      ∙ ap (λ (test : Bool). cond (not test) (pool.proposed so_far id) (pool.with_line so_far Later)) new

  pub proposed-so-far : (id : List ℕ) (after : DraftValue) → length id ≡ 10 → draft.has_id id ≡ false → after.timestamp ≡ draft.timestamp
      → after.rows ≡ draft.rows → after.transactions ≡ draft.transactions
      → ((hash : List ℕ) → after.has_hash hash ≡ draft.has_hash hash) → after.proposals ≡ draft.proposals ++ id ∷ []
      → ((other : List ℕ) → after.has_id other ≡ (draft.has_id other || bytes_eq id other)) → after.left ≡ draft.left → after.interest ≡ draft.interest
      → after.freed ≡ draft.freed → after.lines ≡ draft.lines → IsDraftSoFar stored on (pool.proposed so_far id) (with_line after Propose)
  proposed-so-far id after ten new timestamp rows txs hashes ids has_ids left interest freed lines = record {
    timestamp_is = timestamp ∙ is.timestamp_is;
    sees = record { stands = is.sees.stands; rows_are = λ o. ap (λ (them : OutPoint → Option Row). them o) rows ∙ is.sees.rows_are o };
    fills = record {
      header_is = is.fills.header_is;
      no_uncles = is.fills.no_uncles;
      transactions_are = txs ∙ is.fills.transactions_are;
      ids_are = ids ∙ ap (λ (them : List (List ℕ)). them ++ id ∷ []) is.fills.ids_are;
    };
    begins = subst IsTrue (sym (same-cellbase (pool.with_proposal so_far.block id) so_far.block refl)) is.begins;
    distinct = distinct-push so_far.block.proposals id
        ∙ ap (λ (all : Bool). all && not (has so_far.block.proposals id)) is.distinct
        ∙ ap not (sym (is.ids_are id) ∙ new);
    ids_fit = each-ten id ten;
    hashes_are = λ hash. hashes hash ∙ is.hashes_are hash;
    ids_are = λ other. has_ids other ∙ ap (λ (b : Bool). b || bytes_eq id other) (is.ids_are other) ∙ sym (has-push so_far.block.proposals id other);
    left_is = left ∙ is.left_is;
    moved = subst (λ (z : ℤ). AreMoved on.spec on_branch (pool.with_proposal so_far.block id) z after.freed) (sym interest)
        (subst (λ (n : ℕ). AreMoved on.spec on_branch (pool.with_proposal so_far.block id) draft.interest n) (sym freed)
        (moved-same on.spec on_branch so_far.block id draft.interest draft.freed is.moved));
    lines_are = ap (λ (them : List Line). them ++ Propose ∷ []) (lines ∙ is.lines_are);
  }

  -- ---- One transaction more

  pub commit-is : (t : Transaction) → pool.commit on.spec on_branch so_far t
      ≡ cond (nat_le (draft.length + (4 + length (encoded transaction t))) on.spec.max_block_bytes)
      (pool.committed_at (pool.next_site on.spec on_branch so_far.block) so_far t) (pool.with_line so_far Later)
  commit-is t = ap (λ (n : ℕ). cond (nat_le n on.spec.max_block_bytes)
      (pool.committed_at (pool.next_site on.spec on_branch so_far.block) so_far t) (pool.with_line so_far Later))
      (counted-size on.spec on_branch (pool.with_transaction so_far.block t) is.fills.header_is is.fills.no_uncles is.ids_fit
      ∙ size-transaction so_far.block.transactions t so_far.block.proposals
      ∙ ap (λ (n : ℕ). n + (4 + length (encoded transaction t))) size-is)

  pub commit-later : (t : Transaction) → on.spec.max_block_bytes < draft.length + (4 + length (encoded transaction t))
      → IsDraftSoFar stored on (pool.commit on.spec on_branch so_far t) (with_line draft Later)
  commit-later t past = so-far-answered stored on so_far _ draft Later
      (commit-is t ∙ ap (λ (test : Bool). cond test (pool.committed_at (pool.next_site on.spec on_branch so_far.block) so_far t) (pool.with_line so_far Later))
      (lt-leb (draft.length + (4 + length (encoded transaction t))) on.spec.max_block_bytes past)) is

  pub commit-fits : (t : Transaction) → draft.length + (4 + length (encoded transaction t)) ≤ on.spec.max_block_bytes
      → pool.commit on.spec on_branch so_far t ≡ pool.committed_at (pool.next_site on.spec on_branch so_far.block) so_far t
  commit-fits t within = commit-is t ∙ ap (λ (test : Bool). cond test (pool.committed_at (pool.next_site on.spec on_branch so_far.block) so_far t) (pool.with_line so_far Later))
      (le-leb (draft.length + (4 + length (encoded transaction t))) on.spec.max_block_bytes within)

  pub committed-so-far : (t : Transaction) (e : ℕ) (put after : DraftValue) (passed : PassedTransaction) → on.parent < length on.entries → e ≡ length on.entries
      → IsPut e t draft put → IsTrue (has_cellbase (pool.with_transaction so_far.block t))
      → IsPassed (blocks_of stored) on.parent (passed_at (pool.next_site on.spec on_branch so_far.block) so_far.left t) passed
      → after ≡ record put { left = put.left - passed.cycles; interest = after.interest; freed = put.freed + passed.freed }
      → after.interest ≡ put.interest +ℤ passed.interest
      → IsDraftSoFar stored on (pool.committed_at (pool.next_site on.spec on_branch so_far.block) so_far t) (with_line after (Commit passed.fee passed.cycles))
  committed-so-far t e put after passed placed last is_put begins comes same sum = record {
    timestamp_is = ap (λ (it : DraftValue). it.timestamp) same ∙ is_put.timestamp ∙ is.timestamp_is;
    sees = sees-push stored on (so_far_in (record draft { timestamp = after.timestamp }) so_far.block.transactions) t e after.rows placed last
        (record { stands = is.sees.stands; rows_are = is.sees.rows_are })
        (λ height o above. ap (λ (it : DraftValue). it.rows o) same ∙ is_put.rows height o above
        ∙ ap (λ (txs : List Transaction). row_after e (events_of t height (length txs)) draft.rows o) is.fills.transactions_are);
    fills = record {
      header_is = is.fills.header_is;
      no_uncles = is.fills.no_uncles;
      transactions_are = ap (λ (it : DraftValue). it.transactions) same ∙ is_put.transactions ∙ ap (λ (txs : List Transaction). txs ++ t ∷ []) is.fills.transactions_are;
      ids_are = ap (λ (it : DraftValue). it.proposals) same ∙ is_put.proposals ∙ is.fills.ids_are;
    };
    begins = begins;
    distinct = is.distinct;
    ids_fit = is.ids_fit;
    hashes_are = λ hash. ap (λ (it : DraftValue). it.has_hash hash) same ∙ is_put.hashes hash
        ∙ ap (λ (b : Bool). b || bytes_eq (transaction_hash t) hash) (is.hashes_are hash) ∙ sym (has-hash-push so_far.block.transactions t hash);
    ids_are = λ id. ap (λ (it : DraftValue). it.has_id id) same ∙ is_put.ids id ∙ is.ids_are id;
    left_is = ap (λ (it : DraftValue). it.left) same ∙ ap (λ (n : ℕ). n - passed.cycles) (is_put.left ∙ is.left_is)
        ∙ ap (λ (n : ℕ). so_far.left - n) comes.cycles_are;
    moved = moved-push on.spec on_branch so_far.block t some draft.interest after.interest draft.freed after.freed is.moved
        (sum ∙ ap (λ (z : ℤ). z +ℤ passed.interest) is_put.interest ∙ ap (λ (z : ℤ). draft.interest +ℤ z) comes.interest_is)
        (ap (λ (it : DraftValue). it.freed) same ∙ ap (λ (n : ℕ). n + passed.freed) is_put.freed ∙ ap (λ (n : ℕ). draft.freed + n) comes.freed_is);
    lines_are = ap (λ (them : List Line). them ++ Commit passed.fee passed.cycles ∷ []) (ap (λ (it : DraftValue). it.lines) same ∙ is_put.lines ∙ is.lines_are)
        ∙ ap (λ (n : ℕ). so_far.lines ++ Commit n passed.cycles ∷ []) comes.fee_is
        ∙ ap (λ (n : ℕ). so_far.lines ++ Commit (capacity.fee (pool.next_site on.spec on_branch so_far.block) t) n ∷ []) comes.cycles_are;
  }

  -- ---- A transaction

  pub cellbase-is : (t : Transaction) → has_cellbase (pool.with_transaction so_far.block t) ≡ not (is_cellbase t || draft.has_hash (transaction_hash t))
  cellbase-is t =
      cellbase-grows so_far.block t some
      ∙ ap (λ (begins : Bool). begins && not (is_cellbase t || has (map transaction_hash so_far.block.transactions) (transaction_hash t))) is.begins
      ∙ ap (λ (among : Bool). not (is_cellbase t || among)) (sym (is.hashes_are (transaction_hash t)))

  pub take-is : (t : Transaction) → pool.take_transaction on.spec on_branch so_far t
      ≡ cond (is_cellbase t || draft.has_hash (transaction_hash t)) (pool.with_line so_far (Refused 16))
      (cond (not (is_proposed on.spec on_branch t)) (pool.propose on.spec so_far t)
      (pool.judge on.spec on_branch so_far t (first_failing (transaction_rules (pool.next_site on.spec on_branch so_far.block) so_far.left t))))
  take-is t = ap (λ (test : Bool). cond (not test) (pool.with_line so_far (Refused 16))
      (cond (not (is_proposed on.spec on_branch t)) (pool.propose on.spec so_far t)
      (pool.judge on.spec on_branch so_far t (first_failing (transaction_rules (pool.next_site on.spec on_branch so_far.block) so_far.left t)))))
      (cellbase-is t)
      ∙ ap (λ (test : Bool). cond test (pool.with_line so_far (Refused 16))
      (cond (not (is_proposed on.spec on_branch t)) (pool.propose on.spec so_far t)
      (pool.judge on.spec on_branch so_far t (first_failing (transaction_rules (pool.next_site on.spec on_branch so_far.block) so_far.left t)))))
      (not-not (is_cellbase t || draft.has_hash (transaction_hash t)))

-- by what is judged over the transactions of the draft
module _ (stored : List Stored) (on : ContextValue) (so_far : Assembly) (draft : DraftValue) (is : IsDraftSoFar stored on so_far draft) (t : Transaction)
    (txs : List Transaction) (same : txs ≡ draft.transactions) where
  abbrev branch_on : List Block
  branch_on = branch (blocks_of stored) on.parent

  pub sees-as : SeesSoFar stored on (so_far_in draft txs)
  sees-as = subst (λ (these : List Transaction). SeesSoFar stored on (so_far_in draft these)) (sym (same ∙ is.fills.transactions_are)) is.sees

  -- what comes of it after the transactions of the draft is what comes of it after those of the block: J19 is kept by one that is proposed
  judged-as : IsTrue (is_proposed on.spec branch_on t)
      → judged_alone (appending.next_site on.spec branch_on draft.timestamp txs) draft.left t ≡ judged (pool.next_site on.spec branch_on so_far.block) so_far.left t
  judged-as proposed =
      ap (λ (time : ℕ). judged_alone (appending.next_site on.spec branch_on time txs) draft.left t) is.timestamp_is
      ∙ ap (λ (these : List Transaction). judged_alone (appending.next_site on.spec branch_on so_far.block.header.timestamp these) draft.left t) (same ∙ is.fills.transactions_are)
      ∙ ap (λ (left : ℕ). judged_alone (pool.next_site on.spec branch_on so_far.block) left t) is.left_is
      ∙ judged-proposed (pool.next_site on.spec branch_on so_far.block) so_far.left t proposed

  pub refused-so-far : (stop : JudgeStop) (rule : Rule) (number : ℕ) → stop ≡ Broken rule → number ≡ rule_number rule → IsTrue (is_proposed on.spec branch_on t)
      → StopsAs (judged_alone (appending.next_site on.spec branch_on draft.timestamp txs) draft.left t) stop
      → IsDraftSoFar stored on (pool.judge on.spec branch_on so_far t (first_failing (transaction_rules (pool.next_site on.spec branch_on so_far.block) so_far.left t)))
      (with_line draft (Refused number))
  refused-so-far stop rule number was numbered proposed stops =
      let broken = subst (StopsAs (judged_alone (appending.next_site on.spec branch_on draft.timestamp txs) draft.left t)) was stops in
      so-far-answered stored on so_far _ draft (Refused number)
      (ap (pool.judge on.spec branch_on so_far t)
      (judged-breaks-first (pool.next_site on.spec branch_on so_far.block) so_far.left t (rule_number rule) (sym (judged-as proposed) ∙ broken))
      ∙ ap (λ (n : ℕ). pool.with_line so_far (Refused n)) (sym numbered)) is

  -- one that passes is put into the block, where it fits
  pub judged-commits : (passed : PassedTransaction) → IsTrue (is_proposed on.spec branch_on t)
      → IsOkAnd (judged_alone (appending.next_site on.spec branch_on draft.timestamp txs) draft.left t) (λ passes. IsPassed (blocks_of stored) on.parent passes passed)
      → (pool.judge on.spec branch_on so_far t (first_failing (transaction_rules (pool.next_site on.spec branch_on so_far.block) so_far.left t))
      ≡ pool.commit on.spec branch_on so_far t)
      × IsPassed (blocks_of stored) on.parent (passed_at (pool.next_site on.spec branch_on so_far.block) so_far.left t) passed
  judged-commits passed proposed passes =
      let by = judged-passes-by (pool.next_site on.spec branch_on so_far.block) so_far.left t (λ it. IsPassed (blocks_of stored) on.parent it passed)
      (subst (λ (comes : Result Passed ℕ). IsOkAnd comes (λ it. IsPassed (blocks_of stored) on.parent it passed)) (judged-as proposed) passes) in
      (ap (pool.judge on.spec branch_on so_far t) by.0, by.1)

-- J19 by the ids that are proposed
pub asked-as : (spec : Specification) (on : List Block) (t : Transaction) (ids : List (List ℕ)) (id : List ℕ) (answer : Bool) → AreProposed spec on ids → id ≡ proposal_id t
    → answer ≡ list_any (bytes_eq id) ids → is_proposed spec on t ≡ answer
asked-as spec on t ids id answer proposed named asked =
    sym (proposed (proposal_id t)) ∙ ap (λ (it : List ℕ). list_any (bytes_eq it) ids) (sym named) ∙ sym asked

-- a test by the hash that is had
pub same-test : (t : Transaction) (known : List ℕ → Bool) (hash : List ℕ) (test : Bool) → hash ≡ transaction_hash t → (is_cellbase t || known hash) ≡ test
    → (is_cellbase t || known (transaction_hash t)) ≡ test
same-test t known hash test same answered = ap (λ (it : List ℕ). is_cellbase t || known it) (sym same) ∙ answered

-- by the tests in the order of the code
module _ (stored : List Stored) (on : ContextValue) (so_far : Assembly) (draft : DraftValue) (is : IsDraftSoFar stored on so_far draft) (fits : Fits draft) (t : Transaction) where
  abbrev after_branch : List Block
  after_branch = branch (blocks_of stored) on.parent

  pub repeated-so-far : (is_cellbase t || draft.has_hash (transaction_hash t)) ≡ true
      → IsDraftSoFar stored on (pool.take_transaction on.spec after_branch so_far t) (with_line draft (Refused 16))
  repeated-so-far repeats = so-far-answered stored on so_far _ draft (Refused 16)
      (take-is stored on so_far draft is fits t ∙ ap (λ (test : Bool). cond test (pool.with_line so_far (Refused 16))
      (cond (not (is_proposed on.spec after_branch t)) (pool.propose on.spec so_far t)
      (pool.judge on.spec after_branch so_far t (first_failing (transaction_rules (pool.next_site on.spec after_branch so_far.block) so_far.left t))))) repeats) is

  past-16 : (is_cellbase t || draft.has_hash (transaction_hash t)) ≡ false → (proposed : Bool) → is_proposed on.spec after_branch t ≡ proposed
      → pool.take_transaction on.spec after_branch so_far t ≡ cond (not proposed) (pool.propose on.spec so_far t)
      (pool.judge on.spec after_branch so_far t (first_failing (transaction_rules (pool.next_site on.spec after_branch so_far.block) so_far.left t)))
  past-16 new proposed asked =
      take-is stored on so_far draft is fits t ∙ ap (λ (test : Bool). cond test (pool.with_line so_far (Refused 16))
      (cond (not (is_proposed on.spec after_branch t)) (pool.propose on.spec so_far t)
      (pool.judge on.spec after_branch so_far t (first_failing (transaction_rules (pool.next_site on.spec after_branch so_far.block) so_far.left t))))) new
      ∙ ap (λ (test : Bool). cond (not test) (pool.propose on.spec so_far t)
      (pool.judge on.spec after_branch so_far t (first_failing (transaction_rules (pool.next_site on.spec after_branch so_far.block) so_far.left t)))) asked

  pub take-proposes : (is_cellbase t || draft.has_hash (transaction_hash t)) ≡ false → is_proposed on.spec after_branch t ≡ false
      → pool.take_transaction on.spec after_branch so_far t ≡ pool.propose on.spec so_far t
  take-proposes new asked = past-16 new false asked

  pub take-judges : (is_cellbase t || draft.has_hash (transaction_hash t)) ≡ false → is_proposed on.spec after_branch t ≡ true
      → pool.take_transaction on.spec after_branch so_far t
      ≡ pool.judge on.spec after_branch so_far t (first_failing (transaction_rules (pool.next_site on.spec after_branch so_far.block) so_far.left t))
  take-judges new asked = past-16 new true asked

  pub begins-still : (is_cellbase t || draft.has_hash (transaction_hash t)) ≡ false → IsTrue (has_cellbase (pool.with_transaction so_far.block t))
  begins-still new = cellbase-is stored on so_far draft is fits t ∙ ap not new

-- ---- Sizes and counts

pub few-items : (n : ℕ) → n < most_items → n < 1000
unfolding most_items
few-items n few = few

-- what bytes encode has as many as these
pub canonical-size : (bytes : List ℕ) (t : Transaction) → ((v : Transaction) × IsEncoding transaction bytes v) → ((v : Transaction) → IsEncoding transaction bytes v → t ≡ v)
    → length (encoded transaction t) ≡ length bytes
canonical-size bytes t its exact =
    ap (λ (v : Transaction). length (encoded transaction v)) (exact its.0 its.1) ∙ sym (ap length its.1.encoding)

-- ---- Items

pub take-none : (spec : Specification) (on : List Block) (so_far : Assembly) (item : List ℕ) → None ≡ decoded transaction item
    → pool.take_item spec on so_far item ≡ pool.with_line so_far (Refused 1)
unfolding take_item
take-none spec on so_far item is = ap (pool.take_decoded spec on so_far) (sym is)

pub take-some : (spec : Specification) (on : List Block) (so_far : Assembly) (item : List ℕ) (t : Transaction) → Some t ≡ decoded transaction item
    → pool.take_item spec on so_far item ≡ pool.take_transaction spec on so_far t
unfolding take_item
take-some spec on so_far item t is = ap (pool.take_decoded spec on so_far) (sym is)

abbrev bytes_of : List (Vec ℕ Global) → List (List ℕ)
bytes_of items = map (λ (item : Vec ℕ Global). item.items) items

one-more : (items : List (Vec ℕ Global)) (i : ℕ) (found : Vec ℕ Global) (item : List ℕ) → i < length items → found ≡ get_or items i found → item ≡ found.items
    → bytes_of (take (i + 1) items) ≡ bytes_of (take i items) ++ item ∷ []
one-more items i found item within there is =
    ap bytes_of (take_more items i found within) ∙ map-append (λ (it : Vec ℕ Global). it.items) (take i items) (get_or items i found ∷ [])
    ∙ ap (λ (bytes : List ℕ). bytes_of (take i items) ++ bytes ∷ []) (ap (λ (it : Vec ℕ Global). it.items) (sym there) ∙ sym is)

pub taken-more : (spec : Specification) (on : List Block) (so_far : Assembly) (items : List (Vec ℕ Global)) (i : ℕ) (found : Vec ℕ Global) (item : List ℕ)
    → i < length items → found ≡ get_or items i found → item ≡ found.items
    → keep (pool.take_item spec on) so_far (map (λ (it : Vec ℕ Global). it.items) (take (i + 1) items))
    ≡ pool.take_item spec on (keep (pool.take_item spec on) so_far (map (λ (it : Vec ℕ Global). it.items) (take i items))) item
taken-more spec on so_far items i found item within there is =
    ap (keep (pool.take_item spec on) so_far) (one-more items i found item within there is) ∙ keep-push (pool.take_item spec on) so_far (bytes_of (take i items)) item

pub taken-all : (spec : Specification) (on : List Block) (so_far : Assembly) (items : List (Vec ℕ Global)) (i : ℕ) → length items ≤ i
    → keep (pool.take_item spec on) so_far (map (λ (it : Vec ℕ Global). it.items) items)
    ≡ keep (pool.take_item spec on) so_far (map (λ (it : Vec ℕ Global). it.items) (take i items))
taken-all spec on so_far items i past = ap (λ (these : List (Vec ℕ Global)). keep (pool.take_item spec on) so_far (bytes_of these)) (sym (take_all i items past))
