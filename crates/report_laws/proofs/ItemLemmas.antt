-- The transactions and the proposal ids of the block are of their shapes.
use Rattle.std.proofs.Common.{◌≡◌, ℕ, zero, suc, true, List, [], ◌∷◌, ◌++◌, length, map, take, Some, None, refl, ap, arith}
use Rattle.std.specs.Prelude.{IsTrue}
use Rattle.std.proofs.lemmas.Bool.{and_from, and_parts, eq-eqb}
use Rattle.std.proofs.lemmas.List.{length-take-le}
use Rattle.chain_defs.specs.Shape.{Shape, are_bytes, all_fit, decoded}
use Rattle.chain_defs.specs.Schema.{Transaction, transaction, Block, CellbaseWitness, proposal_short_id}
use Rattle.chain_defs.proofs.ShapeLaws.{IsEncoding-decoded}
use Rattle.chain_defs.specs.First.{first_failing}
use Rattle.chain_defs.specs.Specification.{Specification}
use Rattle.chain_defs.specs.Hashes.{transaction_hash, proposal_id}
use Rattle.rule_defs.specs.Body.{has_proposals}
use Rattle.verdict_defs.specs.Transactions.{transaction_rules}
use Rattle.gen_defs.proofs.SizeLemmas.{hash-fits}
use Rattle.pool_defs.specs.Start.{cellbase}
use Rattle.pool_defs.specs.Assembly.{Assembly, start, take_item, assembly, with_proposal, with_line, next_site, proposed, committed_at}
use Rattle.pool_defs.specs.declared.line.Line.{Line}
use Rattle.pool_defs.proofs.StepLemmas.{changes_nothing, by_step, keep_all}

-- the cellbase first, then canonical transactions; ids of 10 bytes
pub record AreOfShape (first : Transaction) (so_far : Assembly) : Type 0 where
  pub later : List Transaction
  pub transactions_are : so_far.block.transactions ≡ first ∷ later
  pub later_fit : IsTrue (all_fit (map transaction.encoding later))
  pub ids_fit : IsTrue (all_fit (map proposal_short_id.encoding so_far.block.proposals))

fit-push : {V : Type 0} (s : Shape V) (values : List V) (v : V) → IsTrue (all_fit (map s.encoding values)) → IsTrue (s.encoding v).fits
    → IsTrue (all_fit (map s.encoding (values ++ v ∷ [])))
fit-push s [] v all one = and_from _ _ one refl
fit-push s (first ∷ later) v all one = let both = and_parts _ _ all in and_from _ _ both.0 (fit-push s later v both.1 one)

bytes-take : (n : ℕ) (bytes : List ℕ) → IsTrue (are_bytes bytes) → IsTrue (are_bytes (take n bytes))
bytes-take zero bytes all = refl
bytes-take (suc n) [] all = refl
bytes-take (suc n) (b ∷ bytes) all = let both = and_parts _ _ all in and_from _ _ both.0 (bytes-take n bytes both.1)

id-fits : (t : Transaction) → IsTrue (proposal_short_id.encoding (proposal_id t)).fits
unfolding transaction_hash
id-fits t =
    let hash = hash-fits _ in
    let long : length (transaction_hash t) ≡ 32 = hash.size in
    let bytes = (and_parts _ _ hash.fits).1 in
    and_from _ _ (eq-eqb (length (proposal_id t)) 10 (length-take-le 10 (transaction_hash t) (omega (arith, long)))) (bytes-take 10 (transaction_hash t) bytes)

shape-next : (spec : Specification) (on : List Block) (first : Transaction) (so_far : Assembly) (item : List ℕ) → AreOfShape first so_far
    → AreOfShape first (take_item spec on so_far item)
shape-next spec on first so_far item are = by_step spec on so_far item (AreOfShape first) same proposes commits
  where
    same : (line : Line) → changes_nothing line ≡ true → AreOfShape first (with_line so_far line)
    same line none = record { later = are.later; transactions_are = are.transactions_are; later_fit = are.later_fit; ids_fit = are.ids_fit }

    proposes : (t : Transaction) → decoded transaction item ≡ Some t → IsTrue (has_proposals spec (with_proposal so_far.block (proposal_id t)))
        → AreOfShape first (proposed so_far (proposal_id t))
    proposes t is keeps = record {
      later = are.later;
      transactions_are = are.transactions_are;
      later_fit = are.later_fit;
      ids_fit = fit-push proposal_short_id so_far.block.proposals (proposal_id t) are.ids_fit (id-fits t);
    }

    commits : (t : Transaction) → decoded transaction item ≡ Some t
        → first_failing (transaction_rules (next_site spec on so_far.block) so_far.left t) ≡ None
        → AreOfShape first (committed_at (next_site spec on so_far.block) so_far t)
    commits t is unbroken = record {
      later = are.later ++ t ∷ [];
      transactions_are = ap (λ (ts : List Transaction). ts ++ t ∷ []) are.transactions_are;
      later_fit = fit-push transaction are.later t are.later_fit (IsEncoding-decoded transaction item t is).fits;
      ids_fit = are.ids_fit;
    }

pub shape-all : (spec : Specification) (on : List Block) (witness : CellbaseWitness) (items : List (List ℕ))
    → AreOfShape (cellbase spec on witness) (assembly spec on witness items)
unfolding assembly
shape-all spec on witness items =
    keep_all (λ (done : List (List ℕ)) (kept : Assembly). AreOfShape (cellbase spec on witness) kept) (take_item spec on)
    (λ done kept item are. shape-next spec on (cellbase spec on witness) kept item are) [] items (start spec on witness)
    (record { later = []; transactions_are = refl; later_fit = refl; ids_fit = refl })
