use Rattle.std.proofs.Common.{◌≡◌, ◌∷◌, inl, ap, length, Some, sym, subst, List, rules, arith}
use Rattle.outside.specs.Image.{InArea}
use Rattle.outside.specs.Disk.{Torn, OthersRead}
use Rattle.outside_mem.specs.MemoryDisk.{Step, Wrote, reads, FailsInPart, LeavesExactly}
use Rattle.outside.proofs.Torn.{torn_same}
use Rattle.outside_mem.proofs.MemoryDisk.{write_exact_of, writes_in_part, writes_others, follows_in_part, others_same}
use Rattle.outside_mem.proofs.mem_disk.MemDiskDisk.write.Goals as goal

pub returns-then-is_err-clause-in_part : goal.returns-then-is_err-clause-in_part
returns-then-is_err-clause-in_part c =
    let is : c.self.inside.history ≡ c.args.self.now.steps = ap (λ v. v.steps) c.self.view_is in
    let write = c.write_in_part.ensures in
    subst (λ (steps : List Step). FailsInPart (InArea c.args.area (Torn c.args.at (length c.args.piece.now))) steps c.write_in_part.new.self) is
    (writes_in_part _ _ _ _ _ c.write_in_part.result write.in_part write.kept)

pub returns-then-is_err-clause-others : goal.returns-then-is_err-clause-others
returns-then-is_err-clause-others c =
    let is : c.self.inside.history ≡ c.args.self.now.steps = ap (λ v. v.steps) c.self.view_is in
    let write = c.write_in_part.ensures in
    subst (λ (steps : List Step). OthersRead c.args.area (Some (reads steps)) (Some (reads c.write_in_part.new.self))) is
    (writes_others _ _ _ _ (length c.args.piece.now) c.write_in_part.result write.in_part write.kept)

pub returns-then-is_err-clause-images : goal.returns-then-is_err-clause-images
returns-then-is_err-clause-images c =
    follows_in_part c.args.area (Torn c.args.at (length c.args.piece.now)) (torn_same c.args.at (length c.args.piece.now)) _ _ (returns-then-is_err-clause-in_part c)

pub returns-then-is_err-2-clause-others : goal.returns-then-is_err-2-clause-others
returns-then-is_err-2-clause-others c =
    let none : c.write.new.self ≡ c.args.self.now.steps = search rules in
    others_same c.args.area _ _ none

pub returns-then-is_err-2-clause-images : goal.returns-then-is_err-2-clause-images
returns-then-is_err-2-clause-images c =
    let none : c.write.new.self ≡ c.args.self.now.steps = search rules in
    follows_in_part c.args.area (Torn c.args.at (length c.args.piece.now)) (torn_same c.args.at (length c.args.piece.now)) _ _ (inl none)

pub returns-clause-exact : goal.returns-clause-exact
returns-clause-exact c =
    let one : c.write.new.self ≡ Wrote c.args.area c.args.at c.args.piece.now 0 ∷ c.args.self.now.steps = search rules in
    subst (λ (steps : List Step). LeavesExactly (InArea c.args.area (Torn c.args.at (length c.args.piece.now))) c.args.self.now.steps steps) (sym one)
    (write_exact_of c.args.self.now.steps c.args.area c.args.at c.args.piece.now 0 (length c.args.piece.now) (omega arith))

pub returns-clause-images : goal.returns-clause-images
returns-clause-images c = λ image left. (returns-clause-exact c image).0 left
