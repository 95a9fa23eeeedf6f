use Rattle.std.proofs.Common.{ℕ, ◌+◌, length, refl, ap, ◌∙◌, subst, arith}
use Rattle.disk_defs.specs.Log.{is_genesis}
use Rattle.log_file.specs.Grammar.{record_of, blocks_with, IsGenesisOf}
use Rattle.log_file.proofs.Pieces.{told_passed, told_other, told_missing, still_reading}
use Rattle.log_file.proofs.Exits.{on_each, same_stop, stop_counts, answer_counts, answer_still, no_fault_behind, wrong_not_fault, no_damage, at_place}
use Rattle.log_file.proofs.records.read_genesis.Goals as goal

pub returns-in-Err-clause-at : goal.returns-in-Err-clause-at
returns-in-Err-clause-at g c = tt

pub returns-in-Err-clause-blocks : goal.returns-in-Err-clause-blocks
returns-in-Err-clause-blocks g c = tt

pub returns-in-Err-clause-found : goal.returns-in-Err-clause-found
returns-in-Err-clause-found g c = on_each (g.D.Disk.reads_as c.args.disk.now) _ (λ _ _. tt)

pub returns-in_default-clause-at : goal.returns-in_default-clause-at
returns-in_default-clause-at g c = tt

pub returns-in_default-clause-blocks : goal.returns-in_default-clause-blocks
returns-in_default-clause-blocks g c = tt

pub returns-in_default-clause-found : goal.returns-in_default-clause-found
returns-in_default-clause-found g c = on_each (g.D.Disk.reads_as c.args.disk.now) _ (λ _ _. tt)

pub returns-in-Err-begin-clause-at : goal.returns-in-Err-begin-clause-at
returns-in-Err-begin-clause-at g c = tt

pub returns-in-Err-begin-clause-blocks : goal.returns-in-Err-begin-clause-blocks
returns-in-Err-begin-clause-blocks g c = tt

pub returns-in-Err-begin-clause-found : goal.returns-in-Err-begin-clause-found
returns-in-Err-begin-clause-found g c = on_each (g.D.Disk.reads_as c.args.disk.now) _ (λ _ _. tt)

pub returns-in-Err-clause-reading : goal.returns-in-Err-clause-reading
returns-in-Err-clause-reading g c = c.in-Err.ensures.reading

pub returns-in-Err-clause-as_before : goal.returns-in-Err-clause-as_before
returns-in-Err-clause-as_before g c = c.in-Err.ensures.as_before

pub returns-in-Err-clause-wrong : goal.returns-in-Err-clause-wrong
returns-in-Err-clause-wrong g c = no_damage _ c.in-Err.stop c.in-Err.ensures.reads

pub returns-in_default-clause-reading : goal.returns-in_default-clause-reading
returns-in_default-clause-reading g c = c.in-Ok.ensures.reading

pub returns-in_default-clause-as_before : goal.returns-in_default-clause-as_before
returns-in_default-clause-as_before g c = c.in-Ok.ensures.as_before

pub returns-in-Err-begin-clause-reading : goal.returns-in-Err-begin-clause-reading
returns-in-Err-begin-clause-reading g c = c.in-Ok.ensures.reading

pub returns-in-Err-begin-clause-as_before : goal.returns-in-Err-begin-clause-as_before
returns-in-Err-begin-clause-as_before g c = c.in-Ok.ensures.as_before

pub returns-clause-as_before : goal.returns-clause-as_before
returns-clause-as_before g c = c.in-Ok.ensures.as_before

pub returns-clause-wrong : goal.returns-clause-wrong
returns-clause-wrong g c = tt

pub returns-in-Err-clause-cause : goal.returns-in-Err-clause-cause
returns-in-Err-clause-cause g c = stop_counts _ _ _ _ c.in-Err.ensures.cause

pub returns-clause-cause : goal.returns-clause-cause
returns-clause-cause g c = answer_counts _ _ _ _ (answer_still _ _ _ _ c.in-Ok.ensures.cause)

pub returns-clause-found : goal.returns-clause-found
returns-clause-found g c =
    let r = record_of c.in-Some.kind c.in-Some.body.now in
    told_passed _ _ c.args.reader.now c.fill_record.new.self c.skip.new.self r c.ahead.result.now c.fill_record.ensures.at c.skip.ensures.at c.ahead.ensures c.in-Some.ensures.found
    (subst (λ (place : ℕ). IsGenesisOf (place + 6) r (blocks_with (g.V.Visitor.visited c.begin.new.visitor) c.in-Ok-begin.tree.entries)) (c.at-place.ensures.value ∙ c.fill_record.ensures.at.at) c.in-Ok-begin.ensures.genesis)
    c.in-Ok.ensures.found

pub returns-in_default-clause-cause : goal.returns-in_default-clause-cause
returns-in_default-clause-cause g c = no_fault_behind _ _ (answer_still _ _ _ _ c.in-Ok.ensures.cause) (wrong_not_fault _)

pub returns-in-Err-begin-clause-cause : goal.returns-in-Err-begin-clause-cause
returns-in-Err-begin-clause-cause g c = no_fault_behind _ _ (answer_still _ _ _ _ c.in-Ok.ensures.cause) (λ e. c.in-Err-begin.ensures.reads (same_stop _ _ e))

pub skip-requires : goal.skip-requires
skip-requires g c = omega (arith, c.in-Some.ensures.within, ap length c.ahead.ensures)

pub returns-clause-reading : goal.returns-clause-reading
returns-clause-reading g c = still_reading (g.D.Disk.reads_as c.args.disk.now) _ c.fill_record.new.self _ c.in-Ok.ensures.reading c.skip.ensures.reading

pub returns-clause-at : goal.returns-clause-at
returns-clause-at g c = (c.skip.ensures.at.len ∙ c.fill_record.ensures.at.len, omega (arith, c.skip.ensures.at.at, c.fill_record.ensures.at.at, c.in-Some.ensures.fits))

pub begin-requires : goal.begin-requires
begin-requires g c = record { fits = c.in-Some.ensures.fits; none = c.requires }

pub returns-clause-blocks : goal.returns-clause-blocks
returns-clause-blocks g c = c.in-Ok-begin.ensures.blocks

pub returns-in-Err-begin-clause-wrong : goal.returns-in-Err-begin-clause-wrong
returns-in-Err-begin-clause-wrong g c =
    at_place _ _ _ _ c.in-Err-begin.stop (λ wrong.
    told_other _ is_genesis c.args.reader.now c.fill_record.new.self (record_of c.in-Some.kind c.in-Some.body.now) c.ahead.result.now c.at-place.result c.ahead.ensures
    c.in-Some.ensures.found wrong (c.at-place.ensures.value ∙ c.fill_record.ensures.at.at) c.in-Ok.ensures.found) c.in-Err-begin.ensures.wrong

pub returns-in_default-clause-wrong : goal.returns-in_default-clause-wrong
returns-in_default-clause-wrong g c = record {
  area = refl;
  at = told_missing _ is_genesis c.args.reader.now c.fill_record.new.self c.ahead.result.now c.at-place.result c.ahead.ensures
      c.in_default.ensures.found (c.at-place.ensures.value ∙ c.fill_record.ensures.at.at) c.in-Ok.ensures.found;
}
