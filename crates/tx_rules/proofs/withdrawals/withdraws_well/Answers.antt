use Rattle.std.proofs.Common.{ℕ, ◌==◌, refl, sym, ap, ◌∙◌}
use Rattle.std.specs.Prelude.{slice_index, is_some}
use Rattle.std.specs.List.{list_any}
use Rattle.std.proofs.lemmas.List.Sorted.{list_any-IsPermutation}
use Rattle.chain_defs.specs.Row.{Row}
use Rattle.cell_state.specs.Copies.{ResolvedValue}
use Rattle.chain_defs.specs.Branch.{branch_places}
use Rattle.chain_tree.specs.Told.{blocks_of}
use Rattle.rule_defs.specs.Resolving.{heights}
use Rattle.rule_defs.specs.Withdrawals.{is_withdrawing, deposit_height}
use Rattle.outside.proofs.Endings.{handed}
use Rattle.tx_rules.proofs.DepositLemmas.{heights-below, named-same, made-some, made-none, named-well, unnamed-well, is_some-mapped}
use Rattle.tx_rules.proofs.withdrawals.withdraws_well.Goals as goal

pub returns-in-Err : goal.returns-in-Err
returns-in-Err c = record {
  well = λ stored rows site found is are its copied. tt;
  undamaged = λ stored rows site found is its copied damage same.
      c.in-Err.ensures.undamaged stored rows site found is (c.height.ensures.height stored rows site is) its copied c.in-Err.damage refl;
  damage = λ damage same. c.in-Err.ensures.damage damage (handed c.in-Err.damage _ same);
}

pub returns-in-Ok-None-clause-well : goal.returns-in-Ok-None-clause-well
returns-in-Ok-None-clause-well c stored rows site found is are its copied =
    made-none (is_withdrawing site.spec found.cell) _ found.cell.height (sym c.in-Ok-None.field-0-is ∙ c.in-Ok-None.ensures.made stored rows site found is (c.height.ensures.height stored rows site is) its copied)

pub returns-then-is_named-clause-well : goal.returns-then-is_named-clause-well
returns-then-is_named-clause-well c stored rows site found is are its copied =
    let made = made-some (is_withdrawing site.spec found.cell) c.in-Ok-Some.made found.cell.height
    (sym c.in-Ok-Some.field-0-is ∙ c.in-Ok-Some.ensures.made stored rows site found is (c.height.ensures.height stored rows site is) its copied) in
    let block = ap (λ (row : Row). row.block) c.meta.view_is ∙ ap (λ (it : ResolvedValue). it.row.block) c.copy.view_is in
    let listed = c.is_named.ensures ∙ ap (λ (b : ℕ). list_any (λ place. place == b) c.args.ordered.now) block
    ∙ sym (list_any-IsPermutation (λ place. place == c.args.copy.now.row.block) c.args.headers.now c.args.ordered.now c.requires.same)
    ∙ ap (list_any (λ place. place == c.args.copy.now.row.block)) are
    ∙ named-same stored c.args.at.now rows site found c.args.copy.now.row (heights site c.args.tx.now) c.requires.placed is its (heights-below site c.args.tx.now) in
    named-well (is_withdrawing site.spec found.cell) (list_any (λ h. h == found.cell.height) (heights site c.args.tx.now))
    (is_some (deposit_height (heights site c.args.tx.now) c.args.tx.now c.args.i found.cell)) c.is_some.result made.0
    (sym listed ∙ c.if-is_named.true)
    (c.is_some.ensures ∙ ap is_some (c.deposit_place.ensures.deposit stored rows site found.cell is are made.1)
    ∙ is_some-mapped (slice_index (branch_places (blocks_of stored) c.args.at.now.parent)) (deposit_height (heights site c.args.tx.now) c.args.tx.now c.args.i found.cell))

pub returns-else-is_named-clause-well : goal.returns-else-is_named-clause-well
returns-else-is_named-clause-well c stored rows site found is are its copied =
    let made = made-some (is_withdrawing site.spec found.cell) c.in-Ok-Some.made found.cell.height
    (sym c.in-Ok-Some.field-0-is ∙ c.in-Ok-Some.ensures.made stored rows site found is (c.height.ensures.height stored rows site is) its copied) in
    let block = ap (λ (row : Row). row.block) c.meta.view_is ∙ ap (λ (it : ResolvedValue). it.row.block) c.copy.view_is in
    let listed = c.is_named.ensures ∙ ap (λ (b : ℕ). list_any (λ place. place == b) c.args.ordered.now) block
    ∙ sym (list_any-IsPermutation (λ place. place == c.args.copy.now.row.block) c.args.headers.now c.args.ordered.now c.requires.same)
    ∙ ap (list_any (λ place. place == c.args.copy.now.row.block)) are
    ∙ named-same stored c.args.at.now rows site found c.args.copy.now.row (heights site c.args.tx.now) c.requires.placed is its (heights-below site c.args.tx.now) in
    unnamed-well (is_withdrawing site.spec found.cell) (list_any (λ h. h == found.cell.height) (heights site c.args.tx.now))
    (is_some (deposit_height (heights site c.args.tx.now) c.args.tx.now c.args.i found.cell)) c.is_named.result made.0
    (sym listed ∙ c.if-is_named.false) c.if-is_named.false
