use Rattle.std.proofs.Common.{◌≡◌, None, ◌+◌, ◌-◌, ◌*◌, ◌≤◌, ◌^◌, length}
use Rattle.std.specs.Prelude.{IfSome}
use Rattle.outside.specs.Disk.{IsAsBefore}
use Rattle.chain_defs.specs.Kept.{kept_limit}
use Rattle.chain_defs.specs.Specification.{Specification}
use Rattle.log_file.specs.Grammar.{AreBlocks, read_with, edition_room}
use Rattle.log_file.specs.Opening.{HasReadLog}
use Rattle.log_file.proofs.records.read_later.Given as goal

abbrev pub decreases-records : goal.decreases-records
decreases-records g l = kept_limit - length (g.V.Visitor.visited l.visitor) + edition_room l.edition

abbrev pub invariant-records : goal.invariant-records
invariant-records g l = record {
  as_before : IsAsBefore g.D.Disk.reads_as g.D.Disk.images g.D.Disk.moment g.D.Disk.left_since l.initial.disk l.disk;
  no_fault : g.D.Disk.faults l.disk ≡ g.D.Disk.faults l.initial.disk;
  place : l.initial.reader.at + 14 ≤ 2 ^ 33 * (length (g.V.Visitor.visited l.initial.visitor) + 1) → l.reader.at + edition_room l.edition ≤ 2 ^ 33 * (length (g.V.Visitor.visited l.visitor) + 1);
  blocks : AreBlocks (g.V.Visitor.visited l.visitor) l.tree.entries;
  told : (spec : Specification) → IfSome (g.D.Disk.reads_as l.initial.disk) (λ image.
      HasReadLog image.log spec l.initial.reader (read_with (g.V.Visitor.visited l.initial.visitor) l.initial.tree.entries None)
      → HasReadLog image.log spec l.reader (read_with (g.V.Visitor.visited l.visitor) l.tree.entries l.edition));
}
