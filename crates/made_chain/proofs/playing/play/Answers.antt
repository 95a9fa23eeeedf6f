use Rattle.std.proofs.Common.{◌+◌, ◌≤◌, List, ℕ, [], ◌∷◌, ◌++◌, map, take, refl, sym, subst, arith}
use Rattle.outside.specs.Causes.{up_to_last}
use Rattle.crashing.specs.Arming.{armed_faults}
use Rattle.verdict_defs.specs.Chain.{chain_over}
use Rattle.made_chain.specs.declared.outcome.End.{End}
use Rattle.made_chain.specs.Sessions.{items_of, Outcome, IsKeptAfter, fault_ends}
use Rattle.made_chain.proofs.SessionLemmas.{next_session, all_sessions, kept_after, faults_after, acked_more, ends_more}
use Rattle.made_chain.proofs.playing.play.Goals as goal

pub playing-init : goal.playing-init
playing-init g c = record {
  outcomes = [];
  acked_are = c.in_ok-acked.ensures.items;
  ends_are = c.in_ok-ends.ensures.items;
  are = (refl, refl);
  sound = c.requires.store;
  acked_len = c.in_ok-acked.ensures.len;
  ends_len = c.in_ok-ends.ensures.len;
  acked_room = c.in_ok-acked.ensures.capacity;
  ends_room = c.in_ok-ends.ensures.capacity;
}

pub session-count-requires-clause-store : goal.session-count-requires-clause-store
session-count-requires-clause-store g c = c.playing.invariant.sound

pub returns-in_err-push-clause-untouched : goal.returns-in_err-push-clause-untouched
returns-in_err-push-clause-untouched g c =
    let inv = c.playing.invariant in
    absurd (omega (arith, c.in_err-push.ensures.full, inv.acked_len, inv.acked_room, c.playing-test.true))

pub returns-in_err-push-2-clause-untouched : goal.returns-in_err-push-2-clause-untouched
returns-in_err-push-2-clause-untouched g c =
    let inv = c.playing.invariant in
    absurd (omega (arith, c.in_err-push-2.ensures.full, inv.ends_len, inv.ends_room, c.playing-test.true))

pub playing-preserved : goal.playing-preserved
playing-preserved g c =
    let inv = c.playing.invariant in
    let session = c.index-sessions-i.result in
    let outcome : Outcome = record { acked = c.session-count.result.0; end = c.session-count.result.1 } in
    let made = c.session-count.ensures.session.kept inv.sound.0 inv.sound.1 in
    record {
      outcomes = inv.outcomes ++ outcome ∷ [];
      acked_are = acked_more inv.outcomes outcome c.playing.acked.items c.push.new.self.items c.in_ok-push.ensures.items inv.acked_are;
      ends_are = ends_more inv.outcomes outcome c.playing.ends.items c.push-in-playing.new.self.items c.in_ok-push-2.ensures.items inv.ends_are;
      are = next_session g.D.Disk.content_of g.D.Disk.reads_as g.D.Disk.images g.D.Disk.faults g.D.Crashing.picks c.args.sessions.now c.playing.i session inv.outcomes outcome
          c.args.disk.now c.playing.disk c.session-count.new.disk c.args.steps.now c.playing.steps c.session-count.new.steps
          (omega (arith, c.playing-test.true)) c.index-sessions-i.is inv.are c.session-count.ensures.session;
      sound = (chain_over inv.sound.0 (take made.0 (items_of session)), made.2);
      acked_len = omega (arith, c.in_ok-push.ensures.len, inv.acked_len);
      ends_len = omega (arith, c.in_ok-push-2.ensures.len, inv.ends_len);
      acked_room = omega (arith, c.in_ok-push.ensures.capacity, inv.acked_room);
      ends_room = omega (arith, c.in_ok-push-2.ensures.capacity, inv.ends_room);
    }

pub returns-clause-played : goal.returns-clause-played
returns-clause-played g c =
    let inv = c.playing.invariant in
    record {
      outcomes = inv.outcomes;
      acked_are = inv.acked_are;
      ends_are = inv.ends_are;
      are = all_sessions g.D.Disk.content_of g.D.Disk.reads_as g.D.Disk.images g.D.Disk.faults g.D.Crashing.picks c.args.sessions.now c.playing.i inv.outcomes c.args.disk.now c.playing.disk
          c.args.steps.now c.playing.steps (omega (arith, c.playing-test.false)) inv.are;
    }

pub returns-clause-kept : goal.returns-clause-kept
returns-clause-kept g c = λ chain only.
    let inv = c.playing.invariant in
    let are = all_sessions g.D.Disk.content_of g.D.Disk.reads_as g.D.Disk.images g.D.Disk.faults g.D.Crashing.picks c.args.sessions.now c.playing.i inv.outcomes c.args.disk.now c.playing.disk
    c.args.steps.now c.playing.steps (omega (arith, c.playing-test.false)) inv.are in
    let kept = kept_after g.D.Disk.content_of g.D.Disk.reads_as g.D.Disk.images g.D.Disk.faults g.D.Crashing.picks c.args.sessions.now inv.outcomes c.args.disk.now c.playing.disk
    c.args.steps.now c.playing.steps are chain only in
    (kept.0, subst (λ (acked : List ℕ). IsKeptAfter chain (map items_of c.args.sessions.now) acked kept.0) (sym inv.acked_are) kept.1, kept.2)

pub returns-clause-faults : goal.returns-clause-faults
returns-clause-faults g c =
    let inv = c.playing.invariant in
    let are = all_sessions g.D.Disk.content_of g.D.Disk.reads_as g.D.Disk.images g.D.Disk.faults g.D.Crashing.picks c.args.sessions.now c.playing.i inv.outcomes c.args.disk.now c.playing.disk
    c.args.steps.now c.playing.steps (omega (arith, c.playing-test.false)) inv.are in
    subst (λ (ends : List End). up_to_last (armed_faults g.D.Disk.faults c.args.disk.now + fault_ends ends) ≤ armed_faults g.D.Disk.faults c.playing.disk) (sym inv.ends_are)
    (faults_after g.D.Disk.content_of g.D.Disk.reads_as g.D.Disk.images g.D.Disk.faults g.D.Crashing.picks c.args.sessions.now inv.outcomes c.args.disk.now c.playing.disk
    c.args.steps.now c.playing.steps are)
