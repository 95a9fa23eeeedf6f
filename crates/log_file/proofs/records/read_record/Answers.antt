use Rattle.std.proofs.Common.{ℕ, ◌+◌, length, refl, sym, ap, ◌∙◌, subst, arith}
use Rattle.log_file.specs.Grammar.{record_of, read_with, IsTakenFrom}
use Rattle.chain_tree.specs.Told.{blocks_of}
use Rattle.log_file.proofs.Pieces.{told_passed_later, told_misplaced, still_reading}
use Rattle.log_file.proofs.Taking.{taken_within, taken_fewer}
use Rattle.log_file.proofs.Exits.{on_each, told_also, no_answer, not_yes, same_stop, stop_counts, answer_counts, answer_still, no_fault_behind, no_damage, at_place}
use Rattle.log_file.proofs.records.read_record.Goals as goal

pub returns-in-Err-clause-place : goal.returns-in-Err-clause-place
returns-in-Err-clause-place g c = λ _ e. absurd (no_answer _ _ e)

pub returns-in-Err-clause-fewer : goal.returns-in-Err-clause-fewer
returns-in-Err-clause-fewer g c = λ e. absurd (no_answer _ _ e)

pub returns-in-Err-clause-blocks : goal.returns-in-Err-clause-blocks
returns-in-Err-clause-blocks g c = tt

pub returns-in-Err-clause-stays : goal.returns-in-Err-clause-stays
returns-in-Err-clause-stays g c = λ e. absurd (no_answer _ _ e)

pub returns-in-Err-clause-found : goal.returns-in-Err-clause-found
returns-in-Err-clause-found g c = on_each (g.D.Disk.reads_as c.args.disk.now) _ (λ _ _ e. absurd (no_answer _ _ e))

pub returns-in-Err-clause-ended : goal.returns-in-Err-clause-ended
returns-in-Err-clause-ended g c = on_each (g.D.Disk.reads_as c.args.disk.now) _ (λ _ _ e. absurd (no_answer _ _ e))

pub returns-in-Err-clause-byte : goal.returns-in-Err-clause-byte
returns-in-Err-clause-byte g c = on_each (g.D.Disk.reads_as c.args.disk.now) _ (λ _ _ e. absurd (no_answer _ _ e))

pub returns-in-Err-clause-reading : goal.returns-in-Err-clause-reading
returns-in-Err-clause-reading g c = c.in-Err.ensures.reading

pub returns-in-Err-clause-as_before : goal.returns-in-Err-clause-as_before
returns-in-Err-clause-as_before g c = c.in-Err.ensures.as_before

pub returns-in-Err-take-clause-place : goal.returns-in-Err-take-clause-place
returns-in-Err-take-clause-place g c = λ _ e. absurd (no_answer _ _ e)

pub returns-in-Err-take-clause-fewer : goal.returns-in-Err-take-clause-fewer
returns-in-Err-take-clause-fewer g c = λ e. absurd (no_answer _ _ e)

pub returns-in-Err-take-clause-blocks : goal.returns-in-Err-take-clause-blocks
returns-in-Err-take-clause-blocks g c = tt

pub returns-in-Err-take-clause-stays : goal.returns-in-Err-take-clause-stays
returns-in-Err-take-clause-stays g c = λ e. absurd (no_answer _ _ e)

pub returns-in-Err-take-clause-found : goal.returns-in-Err-take-clause-found
returns-in-Err-take-clause-found g c = on_each (g.D.Disk.reads_as c.args.disk.now) _ (λ _ _ e. absurd (no_answer _ _ e))

pub returns-in-Err-take-clause-ended : goal.returns-in-Err-take-clause-ended
returns-in-Err-take-clause-ended g c = on_each (g.D.Disk.reads_as c.args.disk.now) _ (λ _ _ e. absurd (no_answer _ _ e))

pub returns-in-Err-take-clause-byte : goal.returns-in-Err-take-clause-byte
returns-in-Err-take-clause-byte g c = on_each (g.D.Disk.reads_as c.args.disk.now) _ (λ _ _ e. absurd (no_answer _ _ e))

pub returns-in-Err-take-clause-reading : goal.returns-in-Err-take-clause-reading
returns-in-Err-take-clause-reading g c = c.in-Ok.ensures.reading

pub returns-in-Err-take-clause-as_before : goal.returns-in-Err-take-clause-as_before
returns-in-Err-take-clause-as_before g c = c.in-Ok.ensures.as_before

pub returns-in-Err-clause-wrong : goal.returns-in-Err-clause-wrong
returns-in-Err-clause-wrong g c = no_damage _ c.in-Err.stop c.in-Err.ensures.reads

pub returns-in_default-clause-place : goal.returns-in_default-clause-place
returns-in_default-clause-place g c = λ _ e. absurd (not_yes e)

pub returns-in_default-clause-fewer : goal.returns-in_default-clause-fewer
returns-in_default-clause-fewer g c = λ e. absurd (not_yes e)

pub returns-in_default-clause-blocks : goal.returns-in_default-clause-blocks
returns-in_default-clause-blocks g c = c.requires

pub returns-in_default-clause-found : goal.returns-in_default-clause-found
returns-in_default-clause-found g c = on_each (g.D.Disk.reads_as c.args.disk.now) _ (λ _ _ e. absurd (not_yes e))

pub returns-in_default-clause-reading : goal.returns-in_default-clause-reading
returns-in_default-clause-reading g c = c.in-Ok.ensures.reading

pub returns-in_default-clause-as_before : goal.returns-in_default-clause-as_before
returns-in_default-clause-as_before g c = c.in-Ok.ensures.as_before

pub returns-in_default-clause-wrong : goal.returns-in_default-clause-wrong
returns-in_default-clause-wrong g c = tt

pub returns-clause-stays : goal.returns-clause-stays
returns-clause-stays g c = λ e. absurd (not_yes (sym e))

pub returns-clause-ended : goal.returns-clause-ended
returns-clause-ended g c = on_each (g.D.Disk.reads_as c.args.disk.now) _ (λ _ _ e. absurd (not_yes (sym e)))

pub returns-clause-byte : goal.returns-clause-byte
returns-clause-byte g c = on_each (g.D.Disk.reads_as c.args.disk.now) _ (λ _ _ e. absurd (not_yes (sym e)))

pub returns-clause-wrong : goal.returns-clause-wrong
returns-clause-wrong g c = tt

pub returns-clause-as_before : goal.returns-clause-as_before
returns-clause-as_before g c = c.in-Ok.ensures.as_before

pub returns-in-Err-clause-cause : goal.returns-in-Err-clause-cause
returns-in-Err-clause-cause g c = stop_counts _ _ _ _ c.in-Err.ensures.cause

pub returns-clause-cause : goal.returns-clause-cause
returns-clause-cause g c = answer_counts _ _ _ _ (answer_still _ _ _ _ c.in-Ok.ensures.cause)

pub returns-in_default-clause-cause : goal.returns-in_default-clause-cause
returns-in_default-clause-cause g c = answer_counts _ _ _ _ (answer_still _ _ _ _ c.in-Ok.ensures.cause)

pub returns-in-Err-take-clause-cause : goal.returns-in-Err-take-clause-cause
returns-in-Err-take-clause-cause g c = no_fault_behind _ _ (answer_still _ _ _ _ c.in-Ok.ensures.cause) (λ e. c.in-Err-take.ensures.reads (same_stop _ _ e))

pub skip-requires : goal.skip-requires
skip-requires g c = omega (arith, c.in-Some.ensures.within, ap length c.ahead.ensures)

pub returns-clause-reading : goal.returns-clause-reading
returns-clause-reading g c = still_reading (g.D.Disk.reads_as c.args.disk.now) _ c.fill_record.new.self _ c.in-Ok.ensures.reading c.skip.ensures.reading

pub returns-clause-place : goal.returns-clause-place
returns-clause-place g c = λ start _.
    taken_within _ _ _ _ _ _ c.in-Ok-take.ensures.taken start (omega (arith, c.skip.ensures.at.at, c.fill_record.ensures.at.at)) c.in-Some.ensures.fits

pub take-requires : goal.take-requires
take-requires g c = record { fits = c.in-Some.ensures.fits; blocks = c.requires }

pub returns-clause-fewer : goal.returns-clause-fewer
returns-clause-fewer g c = λ _. taken_fewer _ _ _ _ c.in-Ok-take.ensures.taken c.in-Ok-take.ensures.blocks.few

pub returns-clause-blocks : goal.returns-clause-blocks
returns-clause-blocks g c = c.in-Ok-take.ensures.blocks

pub returns-in_default-clause-stays : goal.returns-in_default-clause-stays
returns-in_default-clause-stays g c = λ _. (c.fill_record.ensures.at, refl)

pub returns-in_default-clause-byte : goal.returns-in_default-clause-byte
returns-in_default-clause-byte g c = told_also _ (g.D.Disk.reads_as c.args.disk.now) _ _ c.in-Ok.ensures.byte

pub returns-in-Err-take-clause-wrong : goal.returns-in-Err-take-clause-wrong
returns-in-Err-take-clause-wrong g c =
    at_place _ _ _ _ c.in-Err-take.stop (λ wrong.
    told_misplaced _ (blocks_of (g.V.Visitor.visited c.args.visitor.now)) c.args.edition.now c.args.reader.now c.fill_record.new.self (record_of c.in-Some.kind c.in-Some.body.now) c.ahead.result.now
    c.at-place.result c.ahead.ensures c.in-Some.ensures.found wrong (c.at-place.ensures.value ∙ c.fill_record.ensures.at.at) c.in-Ok.ensures.found) c.in-Err-take.ensures.wrong

pub returns-clause-found : goal.returns-clause-found
returns-clause-found g c =
    let r = record_of c.in-Some.kind c.in-Some.body.now in
    let old = read_with (g.V.Visitor.visited c.args.visitor.now) c.args.tree.now.entries c.args.edition.now in
    let new = read_with (g.V.Visitor.visited c.take.new.visitor) c.take.new.tree.entries c.take.new.edition in
    told_passed_later _ _ (λ r. IsTakenFrom (c.args.reader.now.at + 6) r old new) c.args.reader.now c.fill_record.new.self c.skip.new.self r c.ahead.result.now c.fill_record.ensures.at c.skip.ensures.at
    c.ahead.ensures c.in-Some.ensures.found
    (subst (λ (place : ℕ). IsTakenFrom (place + 6) r old new) (c.at-place.ensures.value ∙ c.fill_record.ensures.at.at) c.in-Ok-take.ensures.taken) c.in-Ok.ensures.found
