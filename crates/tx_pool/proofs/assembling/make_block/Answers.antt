use Rattle.std.proofs.Common.{ℕ, Vec, Global, map, ◌∙◌, length, rules}
use Rattle.std.specs.Int.{w128}
use Rattle.std.proofs.lemmas.Int.{to_z-of_z}
use Rattle.chain_defs.specs.Shape.{encoded}
use Rattle.chain_defs.specs.Schema as schema
use Rattle.chain_tree.specs.Told.{blocks_of}
use Rattle.chain_tree.proofs.ReadLemmas.{read_on, read_short}
use Rattle.block_judge.proofs.Exits.{as_step}
use Rattle.block_judge.specs.Standing.{seen}
use Rattle.tx_pool.specs.Draft.{draft_of}
use Rattle.tx_pool.proofs.AssemblingLemmas.{bytes-as, fills-with, made-of, small-witness}
use Rattle.tx_pool.proofs.assembling.make_block.Goals as goal

pub cellbase_after-requires-clause-witness : goal.cellbase_after-requires-clause-witness
cellbase_after-requires-clause-witness g c = small-witness (length (encoded schema.cellbase_witness c.args.witness.now)) c.requires.witness

pub returns-in-Err-filled-clause-read : goal.returns-in-Err-filled-clause-read
returns-in-Err-filled-clause-read g c = read_on c.in-Ok.ensures.read c.in-Err-filled.ensures.read

pub returns-in-Err-filled-clause-undamaged : goal.returns-in-Err-filled-clause-undamaged
returns-in-Err-filled-clause-undamaged g c stored tells stands damage same =
    c.in-Err-filled.ensures.undamaged stored c.args.witness.now (c.in-Ok.ensures.read.told ∙ tells) stands
    (bytes-as schema.transaction c.in-Ok.cellbase.items c.deref.result.now _ c.deref.ensures.value (c.in-Ok.ensures.cellbase stored tells stands.stands.indexed stands.fees)) damage (as_step same)

pub returns-in-Ok-sealed-clause-read : goal.returns-in-Ok-sealed-clause-read
returns-in-Ok-sealed-clause-read g c = read_on c.in-Ok.ensures.read c.in-Ok-filled.ensures.read

pub returns-in-Ok-sealed-clause-made : goal.returns-in-Ok-sealed-clause-made
returns-in-Ok-sealed-clause-made g c stored tells stands =
    let taken = c.in-Ok-filled.ensures.taken stored c.args.witness.now (c.in-Ok.ensures.read.told ∙ tells) stands
    (bytes-as schema.transaction c.in-Ok.cellbase.items c.deref.result.now _ c.deref.ensures.value (c.in-Ok.ensures.cellbase stored tells stands.stands.indexed stands.fees)) in
    made-of stored (seen g.C.Cells.rows c.args.context.now) c.args.witness.now (map (λ (item : Vec ℕ Global). item.items) c.args.items.now)
    (draft_of g.C.Cells.rows c.in-Ok-filled.draft) c.in-Ok-sealed.block.items taken
    (c.in-Ok-sealed.ensures.sealed (blocks_of stored) _ stands.stands.indexed
    (fills-with stored (seen g.C.Cells.rows c.args.context.now) _ (draft_of g.C.Cells.rows c.in-Ok-filled.draft) c.deref-2.result.now c.deref-3.result.now taken
    c.deref-2.ensures.value c.deref-3.ensures.value)
    (record { interest_is = to_z-of_z w128 c.in-Ok-filled.draft.interest (search rules) ∙ taken.moved.interest_is; freed_is = taken.moved.freed_is }))

pub returns-clause-read : goal.returns-clause-read
returns-clause-read g c = read_short (read_on c.in-Ok.ensures.read c.in-Ok-filled.ensures.read)
