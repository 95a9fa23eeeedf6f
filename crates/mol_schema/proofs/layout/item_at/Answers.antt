use Rattle.std.proofs.Common.{ℕ, ◌≡◌, ◌+◌, ◌*◌, ◌-◌, ◌≤◌, length, take, drop, ap, arith, rules}
use Rattle.chain_defs.specs.Molecule.{item_of_fixvec}
use Rattle.mol_schema.proofs.Reading.{item-ends-within}
use Rattle.mol_schema.proofs.layout.item_at.Goals as goal

pub overflow_mul-from : goal.overflow_mul-from
overflow_mul-from c = let within = item-ends-within c.args.size c.args.bytes.now c.requires.counted c.args.i c.requires.within in omega arith

pub overflow_add-from : goal.overflow_add-from
overflow_add-from c = let within = item-ends-within c.args.size c.args.bytes.now c.requires.counted c.args.i c.requires.within in omega arith

pub overflow_add-to : goal.overflow_add-to
overflow_add-to c = let within = item-ends-within c.args.size c.args.bytes.now c.requires.counted c.args.i c.requires.within in omega arith

pub slice_bounds-result-end : goal.slice_bounds-result-end
slice_bounds-result-end c =
    let within : (4 + c.args.i * c.args.size) + c.args.size ≤ length c.args.bytes.now = item-ends-within c.args.size c.args.bytes.now c.requires.counted c.args.i c.requires.within in
    search rules

pub returns : goal.returns
unfolding item_of_fixvec
returns c =
    let to : (4 + c.args.i * c.args.size) + c.args.size ≡ 4 + (c.args.i + 1) * c.args.size = omega arith in
    ap (λ (n : ℕ). take (n - (4 + c.args.i * c.args.size)) (drop (4 + c.args.i * c.args.size) c.args.bytes.now)) to
