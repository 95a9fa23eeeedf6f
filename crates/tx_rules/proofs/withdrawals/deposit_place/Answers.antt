use Rattle.std.proofs.Common.{◌≡◌, length, sym, ap, ◌∙◌, arith}
use Rattle.std.specs.Prelude.{slice_index}
use Rattle.std.proofs.lemmas.Option.{same_Some}
use Rattle.chain_defs.specs.Branch.{branch_places}
use Rattle.chain_tree.specs.declared.entry.Entry.{Entry}
use Rattle.chain_tree.specs.Entries.{entry_at}
use Rattle.chain_tree.specs.Told.{blocks_of}
use Rattle.rule_defs.specs.Resolving.{heights}
use Rattle.tx_rules.specs.At.{AtValue}
use Rattle.tx_rules.proofs.DepositLemmas.{deposit-none, deposit-entry, deposit-kept, deposit-later}
use Rattle.tx_rules.proofs.withdrawals.deposit_place.Goals as goal
use Rattle.tx_rules.proofs.withdrawals.deposit_place.Goals.{else-place-len-via-then-place-len+else-entry-made, else-place-len-via-else-place-len}

pub returns-in_default-clause-deposit : goal.returns-in_default-clause-deposit
returns-in_default-clause-deposit c stored rows site cell is are made =
    deposit-none (slice_index (branch_places (blocks_of stored) c.args.at.now.parent)) c.args.headers.now (heights site c.args.tx.now) c.args.tx.now c.args.i cell are (sym c.in_default.is ∙ c.named_place.ensures)

pub returns-then-entry-made-clause-deposit : goal.returns-then-entry-made-clause-deposit
returns-then-entry-made-clause-deposit c stored rows site cell is are made =
    let deposit = deposit-entry stored c.args.at.now rows site c.args.headers.now c.args.tx.now c.args.i c.in-Some.place c.requires.placed is are c.in-Some.ensures in
    let entry = same_Some c.entry.result.now deposit.1.entry
    (sym c.entry.ensures.entry ∙ ap (λ (at : AtValue). entry_at at.entries c.in-Some.place) c.at.view_is
    ∙ ap (entry_at c.args.at.now.entries) deposit.0.at ∙ deposit.1.there) in
    let number : c.entry.result.now.number ≡ deposit.0.height = ap (λ (e : Entry). e.number) entry ∙ deposit.1.number in
    deposit-kept (slice_index (branch_places (blocks_of stored) c.args.at.now.parent)) (heights site c.args.tx.now) c.args.tx.now c.args.i c.in-Some.place cell deposit.0
    (omega (arith, number, c.if-entry-made.true, made))

pub returns-else-place-len-clause-deposit : goal.returns-else-place-len-clause-deposit
returns-else-place-len-clause-deposit c stored rows site cell is are made =
    let deposit = deposit-entry stored c.args.at.now rows site c.args.headers.now c.args.tx.now c.args.i c.in-Some.place c.requires.placed is are c.in-Some.ensures in
    let long = ap (λ (at : AtValue). length at.entries) c.at.view_is in
    elim c.else-place-len.branch [
      | else-place-len-via-then-place-len+else-entry-made w ↦
          let entry = same_Some w.entry.result.now deposit.1.entry
          (sym w.entry.ensures.entry ∙ ap (λ (at : AtValue). entry_at at.entries c.in-Some.place) c.at.view_is
          ∙ ap (entry_at c.args.at.now.entries) deposit.0.at ∙ deposit.1.there) in
          let number : w.entry.result.now.number ≡ deposit.0.height = ap (λ (e : Entry). e.number) entry ∙ deposit.1.number in
          deposit-later (slice_index (branch_places (blocks_of stored) c.args.at.now.parent)) (heights site c.args.tx.now) c.args.tx.now c.args.i c.in-Some.place cell deposit.0
          (omega (arith, number, w.if-entry-made.false, made))
      | else-place-len-via-else-place-len w ↦ absurd (omega (arith, w.if-place-len.false, c.len.ensures.len, long, deposit.0.at, deposit.1.within))
    ]
