use Rattle.std.proofs.Common.{List, ℕ, Some, subst, arith}
use Rattle.std.proofs.lemmas.Result.{IfOk-weaker}
use Rattle.outside_mem.specs.MemoryDisk.{Recording, reads, MayLeave, IsPick, disk_faults}
use Rattle.made_chain.specs.Soak.{IsSoaked}
use Rattle.made_chain.specs.Sessions.{items_in}
use Rattle.made_chain.proofs.SoakLemmas.{counts-generated, as-many-generated}
use Rattle.made_chain.proofs.soaking.soak_made.Goals as goal

pub soak_on-requires-clause-count : goal.soak_on-requires-clause-count
soak_on-requires-clause-count g c =
    let many = as-many-generated c.args.seed c.args.count c.in_ok-made.made.blocks.items c.in_ok-made.ensures.blocks in
    omega (arith, many, c.requires.count)

pub returns : goal.returns
returns g c =
    let made = c.in_ok-made.made in
    record {
      counts = counts-generated c.soak_laws.ensures.generated_name_no_later c.args.seed c.args.count made.spec.items made.genesis.items (items_in made.blocks.items)
          c.soak_on.result c.in_ok-made.ensures.spec c.in_ok-made.ensures.genesis c.in_ok-made.ensures.blocks c.soak_on.ensures.counts;
      soaked = IfOk-weaker c.soak_on.result _ _ (λ counts soaked. subst (λ (items : List (List ℕ)).
          IsSoaked (λ (disk : Recording). disk.steps) (λ disk. Some (reads disk.steps)) (λ disk. MayLeave disk.steps) disk_faults (λ disk. IsPick disk.steps) c.args.seed items)
          c.in_ok-made.ensures.blocks soaked) c.soak_on.ensures.soaked;
    }
