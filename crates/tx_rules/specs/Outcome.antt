-- What a transaction resolves to.
use Rattle.std.specs.Prelude.{◌≡◌, ◌⊎◌, ℕ, ◌≤◌, Bool, false, List, ◌∷◌, ◌++◌, map, Option, Some, None, Result, Err, IsErrAnd, IsTrue, IsSome, slice_index}
use Rattle.std.specs.List.{All, AllZip}
use Rattle.chain_defs.specs.Shape.{decoded}
use Rattle.chain_defs.specs.Schema.{OutPoint, Transaction, cell_output, Block}
use Rattle.outside.specs.declared.disk.ReadStop.TheVariants.{NoMemory}
use Rattle.chain_defs.specs.Hashes.{transaction_hash}
use Rattle.chain_defs.specs.Branch.{branch_places}
use Rattle.chain_tree.specs.declared.entry.Entry.{Entry}
use Rattle.chain_tree.specs.Entries.{place_of_hash}
use Rattle.chain_defs.specs.Row.{Row}
use Rattle.cell_state.specs.Copies.{ResolvedValue, ResolvedTxValue, IsCopyOf}
use Rattle.rule_defs.specs.declared.rule.Rule.{Rule}
use Rattle.rule_defs.specs.declared.rule.Rule.TheVariants.{TransactionForm, Proposed, Inputs}
use Rattle.rule_defs.specs.Site.{Site, Found}
use Rattle.rule_defs.specs.Resolving.{inputs, deps, heights}
use Rattle.rule_defs.specs.TransactionRules.{has_form, form_rules, cell_rules}
use Rattle.rule_defs.specs.Capacity as capacity
use Rattle.tx_rules.specs.At.{found_row, spends_rows}
use Rattle.tx_rules.specs.declared.capacity.Balance.{Balance}
use Rattle.tx_rules.specs.declared.resolving.TxStop.{TxStop}
use Rattle.tx_rules.specs.declared.resolving.TxStop.TheVariants.{Broken, Read}

-- What is so of it over any source of blocks: the form is kept, each input has its own out-point, each header dep the place of its hash in the
-- tree, and each copy an output.
pub record IsFormed (entries : List Entry) (t : Transaction) (resolved : ResolvedTxValue) : Type 0 where
  pub form : IsTrue (has_form t)
  pub tx : resolved.tx ≡ t
  pub hash : resolved.hash ≡ transaction_hash t
  pub inputs : map (λ copy. copy.out_point) resolved.inputs ≡ map (λ input. input.previous_output) t.raw.inputs
  pub headers : AllZip (λ hash place. place_of_hash entries hash ≡ Some place) t.raw.header_deps resolved.headers
  pub outputs : All (λ copy. IsSome (decoded cell_output copy.output)) (resolved.inputs ++ resolved.deps)

-- the copy of a cell that is found: its out-point, its row and its bytes
pub record Copies (kept : List Block) (parent : ℕ) (found : Found) (copy : ResolvedValue) : Type 0 where
  pub row : (copy.out_point, copy.row) ≡ found_row kept parent found
  pub bytes : IsCopyOf found.cell copy

-- What it is at its site: the cells of its inputs, its resolved deps, and the places of its header deps, each in their order.
pub record IsResolved (kept : List Block) (parent : ℕ) (site : Site) (t : Transaction) (resolved : ResolvedTxValue) : Type 0 where
  pub inputs_are : AllZip (Copies kept parent) (inputs site t) resolved.inputs
  pub deps_are : AllZip (Copies kept parent) (deps site t) resolved.deps
  pub headers_are : resolved.headers ≡ map (slice_index (branch_places kept parent)) (heights site t)

-- a stop at a rule, or out of memory before it
abbrev pub IsStopAt : Rule → TxStop → Type 0
IsStopAt rule stop = (stop ≡ Broken rule) ⊎ (stop ≡ Read NoMemory)

-- J18 to J20 over any source of blocks: an answer says of them what the transaction, its proposal and the rows do.
pub record FollowsRows {T : Type 0} (proposed : Bool) (rows : OutPoint → Option Row) (t : Transaction) (result : Result T TxStop) : Type 0 where
  pub formless : has_form t ≡ false → IsErrAnd result (IsStopAt TransactionForm)
  pub unproposed : IsTrue (has_form t) → proposed ≡ false → IsErrAnd result (IsStopAt Proposed)
  pub lost : IsTrue (has_form t) → IsTrue proposed → spends_rows rows t ≡ false → IsErrAnd result (IsStopAt Inputs)
  -- and the other way
  pub form : result ≡ Err (Broken TransactionForm) → has_form t ≡ false
  pub named : result ≡ Err (Broken Proposed) → IsTrue (has_form t) × (proposed ≡ false)
  pub live : result ≡ Err (Broken Inputs) → IsTrue (has_form t) × (IsTrue proposed × (spends_rows rows t ≡ false))

-- the rules that are tried: J19 is broken only where it is not proposed
abbrev pub IsTried : Bool → ℕ → Type 0
IsTried proposed rule = (rule ≡ 18) ⊎ (((rule ≡ 19) × (proposed ≡ false)) ⊎ ((20 ≤ rule) × (rule ≤ 27)))

-- The rules on it up to J27, in their order, where it is known whether its id is proposed.
abbrev pub rules_to_27 : Bool → Site → Transaction → List (ℕ × Bool)
rules_to_27 proposed site t = form_rules t ++ (19, proposed) ∷ cell_rules site t

-- A balance: none exactly where the capacity rule is broken, and else the fee and the interest.
abbrev pub IsBalanceOf : Site → Transaction → Option Balance → Type 0
IsBalanceOf site t None = capacity.balances site t ≡ false
IsBalanceOf site t (Some balance) = IsTrue (capacity.balances site t) × (balance.fee ≡ capacity.fee site t) × (balance.interest ≡ capacity.interest site t)
