use Rattle.std.proofs.Common.{◌≡◌, false, length, refl, ap, ◌∙◌, arith, rules}
use Rattle.disk_defs.specs.Log.{is_specification}
use Rattle.log_file.specs.Grammar.{record_of}
use Rattle.log_file.proofs.Exits.{on_each, stop_counts, answer_counts, answer_still, no_fault_behind, wrong_not_fault, no_damage}
use Rattle.log_file.proofs.Pieces.{told_passed, told_other, told_missing, still_reading}
use Rattle.log_file.proofs.records.read_spec.Goals as goal

pub returns-in_default-spec_of-clause-wrong : goal.returns-in_default-spec_of-clause-wrong
returns-in_default-spec_of-clause-wrong g c =
    let wrong : is_specification (record_of c.in-Some.kind c.in-Some.body.now) ≡ false = search rules in record {
      area = refl;
      at = told_other _ is_specification c.args.reader.now c.fill_record.new.self (record_of c.in-Some.kind c.in-Some.body.now) c.ahead.result.now c.at-place.result c.ahead.ensures
          c.in-Some.ensures.found wrong (c.at-place.ensures.value ∙ c.fill_record.ensures.at.at) c.in-Ok.ensures.found;
    }

pub returns-clause-found : goal.returns-clause-found
returns-clause-found g c =
    told_passed _ _ c.args.reader.now c.fill_record.new.self c.skip.new.self (record_of c.in-Some.kind c.in-Some.body.now) c.ahead.result.now c.fill_record.ensures.at c.skip.ensures.at
    c.ahead.ensures c.in-Some.ensures.found (c.in-Some-spec_of.ensures.found, c.in-Some-spec_of.ensures.fields) c.in-Ok.ensures.found

pub returns-in-Err-clause-at : goal.returns-in-Err-clause-at
returns-in-Err-clause-at g c = tt

pub returns-in-Err-clause-found : goal.returns-in-Err-clause-found
returns-in-Err-clause-found g c = on_each (g.D.Disk.reads_as c.args.disk.now) _ (λ _ _. tt)

pub returns-in_default-clause-at : goal.returns-in_default-clause-at
returns-in_default-clause-at g c = tt

pub returns-in_default-clause-found : goal.returns-in_default-clause-found
returns-in_default-clause-found g c = on_each (g.D.Disk.reads_as c.args.disk.now) _ (λ _ _. tt)

pub returns-in_default-spec_of-clause-at : goal.returns-in_default-spec_of-clause-at
returns-in_default-spec_of-clause-at g c = tt

pub returns-in_default-spec_of-clause-found : goal.returns-in_default-spec_of-clause-found
returns-in_default-spec_of-clause-found g c = on_each (g.D.Disk.reads_as c.args.disk.now) _ (λ _ _. tt)

pub returns-in-Err-clause-reading : goal.returns-in-Err-clause-reading
returns-in-Err-clause-reading g c = c.in-Err.ensures.reading

pub returns-in-Err-clause-as_before : goal.returns-in-Err-clause-as_before
returns-in-Err-clause-as_before g c = c.in-Err.ensures.as_before

pub returns-in-Err-clause-wrong : goal.returns-in-Err-clause-wrong
returns-in-Err-clause-wrong g c = no_damage _ c.in-Err.stop c.in-Err.ensures.reads

pub returns-in_default-clause-reading : goal.returns-in_default-clause-reading
returns-in_default-clause-reading g c = c.in-Ok.ensures.reading

pub returns-in_default-clause-as_before : goal.returns-in_default-clause-as_before
returns-in_default-clause-as_before g c = c.in-Ok.ensures.as_before

pub returns-in_default-spec_of-clause-reading : goal.returns-in_default-spec_of-clause-reading
returns-in_default-spec_of-clause-reading g c = c.in-Ok.ensures.reading

pub returns-in_default-spec_of-clause-as_before : goal.returns-in_default-spec_of-clause-as_before
returns-in_default-spec_of-clause-as_before g c = c.in-Ok.ensures.as_before

pub returns-clause-as_before : goal.returns-clause-as_before
returns-clause-as_before g c = c.in-Ok.ensures.as_before

pub returns-clause-wrong : goal.returns-clause-wrong
returns-clause-wrong g c = tt

pub returns-in-Err-clause-cause : goal.returns-in-Err-clause-cause
returns-in-Err-clause-cause g c = stop_counts _ _ _ _ c.in-Err.ensures.cause

pub returns-clause-cause : goal.returns-clause-cause
returns-clause-cause g c = answer_counts _ _ _ _ (answer_still _ _ _ _ c.in-Ok.ensures.cause)

pub returns-in_default-clause-cause : goal.returns-in_default-clause-cause
returns-in_default-clause-cause g c = no_fault_behind _ _ (answer_still _ _ _ _ c.in-Ok.ensures.cause) (wrong_not_fault _)

pub returns-in_default-spec_of-clause-cause : goal.returns-in_default-spec_of-clause-cause
returns-in_default-spec_of-clause-cause g c = no_fault_behind _ _ (answer_still _ _ _ _ c.in-Ok.ensures.cause) (wrong_not_fault _)

pub skip-requires : goal.skip-requires
skip-requires g c = omega (arith, c.in-Some.ensures.within, ap length c.ahead.ensures)

pub returns-clause-reading : goal.returns-clause-reading
returns-clause-reading g c = still_reading (g.D.Disk.reads_as c.args.disk.now) _ c.fill_record.new.self _ c.in-Ok.ensures.reading c.skip.ensures.reading

pub returns-clause-at : goal.returns-clause-at
returns-clause-at g c = (c.skip.ensures.at.len ∙ c.fill_record.ensures.at.len, omega (arith, c.skip.ensures.at.at, c.fill_record.ensures.at.at, c.in-Some.ensures.fits))

pub returns-in_default-clause-wrong : goal.returns-in_default-clause-wrong
returns-in_default-clause-wrong g c = record {
  area = refl;
  at = told_missing _ is_specification c.args.reader.now c.fill_record.new.self c.ahead.result.now c.at-place.result c.ahead.ensures
      c.in_default.ensures.found (c.at-place.ensures.value ∙ c.fill_record.ensures.at.at) c.in-Ok.ensures.found;
}
