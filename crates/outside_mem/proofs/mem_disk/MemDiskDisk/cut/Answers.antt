use Rattle.std.proofs.Common.{◌≡◌, ◌∷◌, inl, ap, Some, sym, subst, List, rules}
use Rattle.outside.specs.Image.{InArea}
use Rattle.outside.specs.Disk.{Cut, OthersRead}
use Rattle.outside_mem.specs.MemoryDisk.{Step, Shortened, reads, FailsInPart, LeavesExactly}
use Rattle.outside.proofs.Torn.{cut_same}
use Rattle.outside_mem.proofs.MemoryDisk.{cut_exact, fails_in_part, fails_cut_others, follows_in_part, others_same}
use Rattle.outside_mem.proofs.mem_disk.MemDiskDisk.cut.Goals as goal

pub returns-then-is_err-clause-in_part : goal.returns-then-is_err-clause-in_part
returns-then-is_err-clause-in_part c =
    let is : c.self.inside.history ≡ c.args.self.now.steps = ap (λ v. v.steps) c.self.view_is in
    subst (λ (steps : List Step). FailsInPart (InArea c.args.area (Cut c.args.len)) steps c.cut.new.self) is
    (fails_in_part _ _ _ _ (Cut c.args.len) c.cut.result c.cut.ensures.recorded c.cut.ensures.kept (cut_exact _ _ _ _))

pub returns-then-is_err-clause-others : goal.returns-then-is_err-clause-others
returns-then-is_err-clause-others c =
    let is : c.self.inside.history ≡ c.args.self.now.steps = ap (λ v. v.steps) c.self.view_is in
    subst (λ (steps : List Step). OthersRead c.args.area (Some (reads steps)) (Some (reads c.cut.new.self))) is
    (fails_cut_others _ _ _ _ _ c.cut.result c.cut.ensures.recorded c.cut.ensures.kept)

pub returns-then-is_err-clause-images : goal.returns-then-is_err-clause-images
returns-then-is_err-clause-images c =
    follows_in_part c.args.area (Cut c.args.len) (cut_same c.args.len) _ _ (returns-then-is_err-clause-in_part c)

pub returns-then-is_err-2-clause-others : goal.returns-then-is_err-2-clause-others
returns-then-is_err-2-clause-others c =
    let none : c.cut-2.new.self ≡ c.args.self.now.steps = search rules in
    others_same c.args.area _ _ none

pub returns-then-is_err-2-clause-images : goal.returns-then-is_err-2-clause-images
returns-then-is_err-2-clause-images c =
    let none : c.cut-2.new.self ≡ c.args.self.now.steps = search rules in
    follows_in_part c.args.area (Cut c.args.len) (cut_same c.args.len) _ _ (inl none)

pub returns-clause-exact : goal.returns-clause-exact
returns-clause-exact c =
    let one : c.cut-2.new.self ≡ Shortened c.args.area c.args.len 0 ∷ c.args.self.now.steps = search rules in
    subst (λ (steps : List Step). LeavesExactly (InArea c.args.area (Cut c.args.len)) c.args.self.now.steps steps) (sym one)
    (cut_exact c.args.self.now.steps c.args.area c.args.len 0)
