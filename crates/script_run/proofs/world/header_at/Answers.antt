use Rattle.std.proofs.Common.{refl, sym, nat_eq}
use Rattle.std.specs.HashMap.{get}
use Rattle.script_run.proofs.WorldLemmas.{read-still, read-more, read-header, hand-header}
use Rattle.script_run.proofs.world.header_at.Goals as goal

pub returns-in-Some-clause-header : goal.returns-in-Some-clause-header
returns-in-Some-clause-header g c = λ stored made tells there.
    read-header (g.B.Blocks.told c.args.blocks.now) (get nat_eq c.args.headers.now) c.args.place c.in-Some.bytes.now stored made c.requires.are_read
    (sym c.in-Some.ensures.value) tells there

pub returns-in-Ok-insert-clause-are_read : goal.returns-in-Ok-insert-clause-are_read
returns-in-Ok-insert-clause-are_read g c =
    let now = g.B.Blocks.told c.bring.new.self in
    read-more now (get nat_eq c.args.headers.now) (get nat_eq c.insert.new.self) c.args.place c.header_of-bytes.result c.in-Ok-insert.ensures.updates.0
    (hand-header now now (g.B.Blocks.in_hand c.bring.new.self) c.args.place c.block.result c.header_of-bytes.result refl c.in-Ok.ensures.taken c.header_of-bytes.ensures c.block.ensures)
    (read-still (g.B.Blocks.told c.args.blocks.now) now (get nat_eq c.args.headers.now) (get nat_eq c.args.headers.now) c.in-Ok.ensures.read.told (λ _. refl) c.requires.are_read)
