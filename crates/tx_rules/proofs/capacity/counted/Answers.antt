use Rattle.std.proofs.Common.{◌≡◌, ℕ, Some, None, refl, sym, ap, ◌∙◌, subst, arith}
use Rattle.std.specs.Prelude.{slice_index, pos, IfOk}
use Rattle.std.proofs.lemmas.Bool.{and_parts}
use Rattle.chain_defs.specs.Dao.{as_u64}
use Rattle.chain_defs.specs.Branch.{branch_places}
use Rattle.chain_tree.specs.Told.{blocks_of}
use Rattle.chain_defs.specs.Row.{Row}
use Rattle.cell_state.specs.Copies.{ResolvedValue}
use Rattle.rule_defs.specs.Resolving.{heights}
use Rattle.rule_defs.specs.Withdrawals.{is_dao_script, has_withdrawing_data, is_withdrawing, deposit_height}
use Rattle.rule_defs.specs.Capacity.{counted}
use Rattle.tx_rules.specs.Seen.{IsRowOf}
use Rattle.outside.proofs.Endings.{handed}
use Rattle.tx_rules.proofs.DepositLemmas.{made-some}
use Rattle.tx_rules.proofs.MoneyLemmas.{counted-plain, counted-withdrawn, none-plain, made-listed, typed-some, mapped-none, mapped-some, deposit-below}
use Rattle.tx_rules.proofs.capacity.counted.Goals as goal

pub returns-in-Err : goal.returns-in-Err
returns-in-Err c = record {
  counted = λ stored rows site found is height are its copied well. tt;
  undamaged = λ stored rows site found is height are its copied well damage same.
      c.in-Err.ensures.undamaged stored rows site found is height its copied c.in-Err.damage refl;
  damage = λ damage same. c.in-Err.ensures.damage damage (handed c.in-Err.damage _ same);
}

pub returns-in-Ok-None-clause-counted : goal.returns-in-Ok-None-clause-counted
returns-in-Ok-None-clause-counted c stored rows site found is height are its copied well =
    let plain = none-plain (is_withdrawing site.spec found.cell) found.cell.height
    (sym c.in-Ok-None.field-0-is ∙ c.in-Ok-None.ensures.made stored rows site found is height its copied) in
    let capacity : c.meta.inside.capacity ≡ counted site c.args.tx.now (c.args.i, found) =
    ap (λ (row : Row). row.capacity) c.meta.view_is ∙ ap (λ (it : ResolvedValue). it.row.capacity) c.copy.view_is ∙ ap (λ (row : Row). row.capacity) its.is
    ∙ sym (counted-plain site c.args.tx.now c.args.i found plain) in
    c.counted_plain.ensures ∙ ap (λ (n : ℕ). as_u64 (pos n)) capacity

pub returns-in-None-clause-counted : goal.returns-in-None-clause-counted
returns-in-None-clause-counted c stored rows site found is height are its copied well =
    let made = made-some (is_withdrawing site.spec found.cell) c.in-Ok-Some.made found.cell.height
    (sym c.in-Ok-Some.field-0-is ∙ c.in-Ok-Some.ensures.made stored rows site found is height its copied) in
    let none = mapped-none (slice_index (branch_places (blocks_of stored) c.args.at.now.parent)) (deposit_height (heights site c.args.tx.now) c.args.tx.now c.args.i found.cell)
    (c.in-None.ensures.deposit stored rows site found.cell is are made.1) in
    let capacity : c.meta.inside.capacity ≡ counted site c.args.tx.now (c.args.i, found) =
    ap (λ (row : Row). row.capacity) c.meta.view_is ∙ ap (λ (it : ResolvedValue). it.row.capacity) c.copy.view_is ∙ ap (λ (row : Row). row.capacity) its.is
    ∙ sym (counted-withdrawn site c.args.tx.now c.args.i found None made.0 none) in
    c.counted_plain-in-None.ensures ∙ ap (λ (n : ℕ). as_u64 (pos n)) capacity

pub returns-in-Some-clause-counted : goal.returns-in-Some-clause-counted
returns-in-Some-clause-counted c stored rows site found is height are its copied well =
    let made = made-some (is_withdrawing site.spec found.cell) c.in-Ok-Some.made found.cell.height
    (sym c.in-Ok-Some.field-0-is ∙ c.in-Ok-Some.ensures.made stored rows site found is height its copied) in
    let deposit = mapped-some (slice_index (branch_places (blocks_of stored) c.args.at.now.parent)) (deposit_height (heights site c.args.tx.now) c.args.tx.now c.args.i found.cell)
    c.in-Some.deposit (c.in-Some.ensures.deposit stored rows site found.cell is are made.1) in
    let low = made-listed site c.args.tx.now c.args.i found well made.0 in
    let row = subst (λ (it : ResolvedValue). IsRowOf (blocks_of stored) c.args.at.now.parent site found it.row) (sym c.copy.view_is) its in
    let below = deposit-below (heights site c.args.tx.now) c.args.tx.now c.args.i found.cell deposit.0 deposit.1 in
    subst (λ (n : ℕ). IfOk c.withdrawn.result (λ sum. sum ≡ as_u64 (pos n)))
    (sym (counted-withdrawn site c.args.tx.now c.args.i found (Some deposit.0) made.0 deposit.1))
    (c.withdrawn.ensures.withdrawn stored rows site found deposit.0 is row low (omega (arith, below, low)) deposit.2)

pub returns-in-Some-clause-undamaged : goal.returns-in-Some-clause-undamaged
returns-in-Some-clause-undamaged c stored rows site found is height are its copied well damage broken =
    let made = made-some (is_withdrawing site.spec found.cell) c.in-Ok-Some.made found.cell.height
    (sym c.in-Ok-Some.field-0-is ∙ c.in-Ok-Some.ensures.made stored rows site found is height its copied) in
    let low = made-listed site c.args.tx.now c.args.i found well made.0 in
    let row = subst (λ (it : ResolvedValue). IsRowOf (blocks_of stored) c.args.at.now.parent site found it.row) (sym c.copy.view_is) its in
    let dao = (and_parts (is_dao_script site.spec found.cell.output.type_script) (has_withdrawing_data found.cell.content) made.0).0 in
    c.withdrawn.ensures.undamaged stored rows site found is row low (typed-some site.spec found.cell.output.type_script dao) damage broken
