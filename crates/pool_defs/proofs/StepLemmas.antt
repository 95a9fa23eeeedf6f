-- What one item comes to, case by case, and what holds of all items.
use Rattle.std.proofs.Common.{◌≡◌, ℕ, Bool, true, false, cond, List, [], ◌∷◌, ◌++◌, Option, Some, None, refl, sym, subst}
use Rattle.std.specs.Prelude.{IsTrue, ◌&&◌, not}
use Rattle.std.proofs.lemmas.List.{append-nil, append_assoc}
use Rattle.chain_defs.specs.Shape.{decoded}
use Rattle.chain_defs.specs.Schema.{Transaction, transaction, Block}
use Rattle.chain_defs.specs.First.{first_failing}
use Rattle.chain_defs.specs.Fold.{keep}
use Rattle.chain_defs.specs.Specification.{Specification}
use Rattle.chain_defs.specs.Hashes.{proposal_id}
use Rattle.rule_defs.specs.Body.{fits_length, has_proposals}
use Rattle.rule_defs.specs.Cellbase.{has_cellbase}
use Rattle.verdict_defs.specs.Transactions.{is_proposed, transaction_rules}
use Rattle.pool_defs.specs.Assembly.{Assembly, with_transaction, with_proposal, with_line, next_site, proposed, committed_at, propose, judge, take_decoded, take_item}
use Rattle.pool_defs.specs.declared.line.Line.{Line}
use Rattle.pool_defs.specs.declared.line.Line.TheVariants.{Commit, Propose, Refused, Later}

-- a line of an item that changes nothing
abbrev pub changes_nothing : Line → Bool
changes_nothing (Commit paid cycles) = false
changes_nothing Propose = false
changes_nothing (Refused rule) = true
changes_nothing Later = true

-- What holds in each case of an item holds of it.
module _ (spec : Specification) (branch : List Block) (so_far : Assembly) (item : List ℕ) (P : Assembly → Type 0)
    (same : (line : Line) → changes_nothing line ≡ true → P (with_line so_far line))
    (proposes : (t : Transaction) → decoded transaction item ≡ Some t → IsTrue (has_proposals spec (with_proposal so_far.block (proposal_id t)))
    → P (proposed so_far (proposal_id t)))
    (commits : (t : Transaction) → decoded transaction item ≡ Some t
    → first_failing (transaction_rules (next_site spec branch so_far.block) so_far.left t) ≡ None
    → P (committed_at (next_site spec branch so_far.block) so_far t)) where
  by_proposing : (t : Transaction) → decoded transaction item ≡ Some t → (fits ids : Bool)
      → has_proposals spec (with_proposal so_far.block (proposal_id t)) ≡ ids
      → P (cond (fits && ids) (proposed so_far (proposal_id t)) (with_line so_far Later))
  by_proposing t is true true keeps = proposes t is keeps
  by_proposing t is true false keeps = same Later refl
  by_proposing t is false ids keeps = same Later refl

  by_length : (t : Transaction) → decoded transaction item ≡ Some t
      → first_failing (transaction_rules (next_site spec branch so_far.block) so_far.left t) ≡ None → (fits : Bool)
      → P (cond fits (committed_at (next_site spec branch so_far.block) so_far t) (with_line so_far Later))
  by_length t is unbroken true = commits t is unbroken
  by_length t is unbroken false = same Later refl

  by_rule : (t : Transaction) → decoded transaction item ≡ Some t → (broken : Option ℕ)
      → first_failing (transaction_rules (next_site spec branch so_far.block) so_far.left t) ≡ broken → P (judge spec branch so_far t broken)
  by_rule t is (Some rule) broken = same (Refused rule) refl
  by_rule t is None unbroken = by_length t is unbroken (fits_length spec (with_transaction so_far.block t))

  by_window : (t : Transaction) → decoded transaction item ≡ Some t → (waits : Bool)
      → P (cond waits (propose spec so_far t)
      (judge spec branch so_far t (first_failing (transaction_rules (next_site spec branch so_far.block) so_far.left t))))
  by_window t is true =
      by_proposing t is (fits_length spec (with_proposal so_far.block (proposal_id t))) (has_proposals spec (with_proposal so_far.block (proposal_id t))) refl
  by_window t is false = by_rule t is (first_failing (transaction_rules (next_site spec branch so_far.block) so_far.left t)) refl

  by_place : (t : Transaction) → decoded transaction item ≡ Some t → (repeats : Bool)
      → P (cond repeats (with_line so_far (Refused 16)) (cond (not (is_proposed spec branch t)) (propose spec so_far t)
      (judge spec branch so_far t (first_failing (transaction_rules (next_site spec branch so_far.block) so_far.left t)))))
  by_place t is true = same (Refused 16) refl
  by_place t is false = by_window t is (not (is_proposed spec branch t))

  by_form : (found : Option Transaction) → decoded transaction item ≡ found → P (take_decoded spec branch so_far found)
  by_form None is = same (Refused 1) refl
  by_form (Some t) is = by_place t is (not (has_cellbase (with_transaction so_far.block t)))

  pub by_step : P (take_item spec branch so_far item)
  unfolding take_item
  by_step = by_form (decoded transaction item) refl

-- What holds at the start, and with each item more, holds after all of them.
pub keep_all : {K I : Type 0} (P : List I → K → Type 0) (kept_after : K → I → K)
    → ((done : List I) (kept : K) (item : I) → P done kept → P (done ++ item ∷ []) (kept_after kept item))
    → (done items : List I) (kept : K) → P done kept → P (done ++ items) (keep kept_after kept items)
keep_all P kept_after more done [] kept holds = subst (λ (all : List _). P all kept) (sym (append-nil done)) holds
keep_all P kept_after more done (item ∷ items) kept holds =
    subst (λ (all : List _). P all (keep kept_after (kept_after kept item) items)) (append_assoc done (item ∷ []) items)
    (keep_all P kept_after more (done ++ item ∷ []) items (kept_after kept item) (more done kept item holds))
