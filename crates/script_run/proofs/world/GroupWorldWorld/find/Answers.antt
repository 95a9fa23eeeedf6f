use Rattle.std.proofs.Common.{◌≡◌, refl, sym, ap, ◌∙◌}
use Rattle.std.specs.Prelude.{Err}
use Rattle.outside.specs.declared.disk.ReadStop.TheVariants.{NoMemory}
use Rattle.machine_defs.specs.World.{Here, NoIndex, Missing, Unknown}
use Rattle.script_run.specs.declared.bytes.Answer.TheVariants as answer
use Rattle.script_run.specs.declared.bytes.Lookup.TheVariants as look
use Rattle.script_run.specs.Lookups.{bytes_of, header_part, known_items}
use Rattle.chain_tree.specs.Reading.{stop_of}
use Rattle.vm_sys.proofs.Exits.{finds-none}
use Rattle.script_run.specs.Shown.{ShownTxValue}
use Rattle.script_run.proofs.ReadLemmas.{counted-as, counted-stop, no-error, none-counted, not-there, some-stop, world-finds}
use Rattle.script_run.proofs.WorldLemmas.{by-look, here-or-unknown, kept, not-wanted}
use Rattle.script_run.proofs.world.GroupWorldWorld.find.Goals as goal

pub returns-in-Here : goal.returns-in-Here
returns-in-Here g c =
    let world = c.args.self.now in
    record {
      told = refl;
      loans = refl;
      here = λ _. refl;
      found = by-look world.tx.now.second world.tx.now.epoch_length world.tx.now.it world.group.now (g.B.Blocks.told world.blocks.now) c.args.call c.look_up.result (look.Answered (answer.Here c.in-Here.bytes)) c.look_up.ensures.found (c.in-Answered.is ∙ ap look.Answered c.in-Here.is)
          (λ items. items c.args.call ≡ Here (bytes_of c.in-Here.bytes)) (λ stored scene told is. is);
      known = not-wanted (known_items world.tx.now.second world.tx.now.epoch_length world.tx.now.it world.group.now (g.B.Blocks.told world.blocks.now)) c.args.call _ (no-error _ _);
      cause = none-counted _ _ (no-error _ _);
      answered = finds-none _ (λ damage. no-error _ _);
      undamaged = λ _ damage is. no-error _ _ is;
      damage = λ damage is. absurd (no-error _ _ is);
    }

pub returns-in-NoIndex : goal.returns-in-NoIndex
returns-in-NoIndex g c =
    let world = c.args.self.now in
    record {
      told = refl;
      loans = refl;
      here = λ is. absurd (cc);
      found = by-look world.tx.now.second world.tx.now.epoch_length world.tx.now.it world.group.now (g.B.Blocks.told world.blocks.now) c.args.call c.look_up.result (look.Answered answer.NoIndex) c.look_up.ensures.found (c.in-Answered.is ∙ ap look.Answered c.in-NoIndex.is)
          (λ items. items c.args.call ≡ NoIndex) (λ stored scene told is. is);
      known = not-wanted (known_items world.tx.now.second world.tx.now.epoch_length world.tx.now.it world.group.now (g.B.Blocks.told world.blocks.now)) c.args.call _ (no-error _ _);
      cause = none-counted _ _ (no-error _ _);
      answered = finds-none _ (λ damage. no-error _ _);
      undamaged = λ _ damage is. no-error _ _ is;
      damage = λ damage is. absurd (no-error _ _ is);
    }

pub returns-in-Missing : goal.returns-in-Missing
returns-in-Missing g c =
    let world = c.args.self.now in
    record {
      told = refl;
      loans = refl;
      here = λ is. absurd (cc);
      found = by-look world.tx.now.second world.tx.now.epoch_length world.tx.now.it world.group.now (g.B.Blocks.told world.blocks.now) c.args.call c.look_up.result (look.Answered answer.Missing) c.look_up.ensures.found (c.in-Answered.is ∙ ap look.Answered c.in-Missing.is)
          (λ items. items c.args.call ≡ Missing) (λ stored scene told is. is);
      known = not-wanted (known_items world.tx.now.second world.tx.now.epoch_length world.tx.now.it world.group.now (g.B.Blocks.told world.blocks.now)) c.args.call _ (no-error _ _);
      cause = none-counted _ _ (no-error _ _);
      answered = finds-none _ (λ damage. no-error _ _);
      undamaged = λ _ damage is. no-error _ _ is;
      damage = λ damage is. absurd (no-error _ _ is);
    }

pub returns-in-Unknown : goal.returns-in-Unknown
returns-in-Unknown g c =
    let world = c.args.self.now in
    record {
      told = refl;
      loans = refl;
      here = λ is. absurd (cc);
      found = by-look world.tx.now.second world.tx.now.epoch_length world.tx.now.it world.group.now (g.B.Blocks.told world.blocks.now) c.args.call c.look_up.result (look.Answered answer.Unknown) c.look_up.ensures.found (c.in-Answered.is ∙ ap look.Answered c.in-Unknown.is)
          (λ items. items c.args.call ≡ Unknown) (λ stored scene told is. is);
      known = not-wanted (known_items world.tx.now.second world.tx.now.epoch_length world.tx.now.it world.group.now (g.B.Blocks.told world.blocks.now)) c.args.call _ (no-error _ _);
      cause = none-counted _ _ (no-error _ _);
      answered = finds-none _ (λ damage. no-error _ _);
      undamaged = λ _ damage is. no-error _ _ is;
      damage = λ damage is. absurd (no-error _ _ is);
    }

pub returns-in-Ok : goal.returns-in-Ok
returns-in-Ok g c =
    let world = c.args.self.now in
    let place = c.in-InBlock.place in
    let part = c.in-InBlock.part in
    let read = c.in-Ok.ensures.read in
    record {
      told = ap (known_items world.tx.now.second world.tx.now.epoch_length world.tx.now.it world.group.now) read.told;
      loans = λ t. (world.blocks.ghost_name, read.loans t, read.told t, read.count t);
      here = λ _. refl;
      found = by-look world.tx.now.second world.tx.now.epoch_length world.tx.now.it world.group.now (g.B.Blocks.told world.blocks.now) c.args.call c.look_up.result (look.InBlock place part) c.look_up.ensures.found c.in-InBlock.is
          (λ items. items c.args.call ≡ Here (bytes_of c.in-Ok.bytes))
          (λ stored scene told is.
          let k = kept stored place _ is in
          k.holds ∙ ap Here (ap (λ (t : ShownTxValue). header_part t.epoch_length part k.made.block.header) (sym c.tx.view_is) ∙ sym (c.in-Ok.ensures.part stored k.made told k.there)));
      known = not-wanted (known_items world.tx.now.second world.tx.now.epoch_length world.tx.now.it world.group.now (g.B.Blocks.told world.blocks.now)) c.args.call _ (no-error _ _);
      cause = counted-as _ _ _ _ (λ is. absurd (no-error _ _ is)) (λ is. absurd (not-there _ _ refl is)) read.cause;
      answered = world-finds (λ damage is. absurd (not-there _ _ refl is)) (λ damage is. absurd (no-error _ _ is)) read.found;
      undamaged = λ _ damage is. no-error _ _ is;
      damage = λ damage is. absurd (no-error _ _ is);
    }

pub returns-in-Err : goal.returns-in-Err
returns-in-Err g c =
    let world = c.args.self.now in
    let place = c.in-InBlock.place in
    let part = c.in-InBlock.part in
    let read = c.in-Err.ensures.read in
    record {
      told = ap (known_items world.tx.now.second world.tx.now.epoch_length world.tx.now.it world.group.now) read.told;
      loans = λ t. (world.blocks.ghost_name, read.loans t, read.told t, read.count t);
      here = tt;
      found = tt;
      known = by-look world.tx.now.second world.tx.now.epoch_length world.tx.now.it world.group.now (g.B.Blocks.told world.blocks.now) c.args.call c.look_up.result (look.InBlock place part) c.look_up.ensures.found c.in-InBlock.is
          (λ items. items c.args.call ≡ Unknown → Err c.in-Err.stop ≡ Err NoMemory → ⊥)
          (λ stored scene told is unknown no_memory. let k = kept stored place _ is in here-or-unknown _ _ k.holds unknown);
      cause = counted-stop _ _ c.in-Err.stop read.cause;
      answered = world-finds (λ damage is. ap Err (some-stop _ _ is)) (λ damage is. ap stop_of is) read.found;
      undamaged = λ sound damage is. c.in-Err.ensures.undamaged sound damage (ap Err (some-stop _ _ (ap stop_of is)));
      damage = λ damage is. read.damage damage (ap stop_of is);
    }
