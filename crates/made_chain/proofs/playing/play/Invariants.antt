use Rattle.std.proofs.Common.{◌≡◌, ◌≤◌, List, length, map, take, vec_len, vec_capacity}
use Rattle.made_chain.specs.Sessions.{HasSoundImage, Outcome, AreSessions}
use Rattle.made_chain.proofs.playing.play.Given as goal

-- the sessions so far were made, and there is room for an entry of each
abbrev pub invariant-playing : goal.invariant-playing
invariant-playing g l = record {
  outcomes : List Outcome;
  acked_are : l.acked.items ≡ map (λ (outcome : Outcome). outcome.acked) outcomes;
  ends_are : l.ends.items ≡ map (λ (outcome : Outcome). outcome.end) outcomes;
  are : AreSessions g.D.Disk.content_of g.D.Disk.reads_as g.D.Disk.images g.D.Disk.faults g.D.Crashing.picks (take l.i l.sessions) outcomes l.fn.disk l.disk l.fn.steps l.steps;
  sound : HasSoundImage (g.D.Disk.reads_as l.disk.disk) (g.D.Disk.images l.disk.disk);
  acked_len : vec_len l.acked ≡ l.i;
  ends_len : vec_len l.ends ≡ l.i;
  acked_room : length l.sessions ≤ vec_capacity l.acked;
  ends_room : length l.sessions ≤ vec_capacity l.ends;
}
