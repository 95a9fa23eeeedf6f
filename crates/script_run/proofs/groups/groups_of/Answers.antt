use Rattle.std.proofs.Common.{◌≡◌, [], List, map, ap, sym, ◌∙◌, subst}
use Rattle.std.specs.List.{AllZip}
use Rattle.cell_state.specs.Copies.{ResolvedValue, ResolvedTxValue}
use Rattle.script_run.specs.Shown.{IsShownAs, ShownTxValue}
use Rattle.script_run.proofs.GroupLemmas.{lock_given, type_given, type_made, groups-are, groups-hashed}
use Rattle.script_run.proofs.groups.groups_of.Goals as goal

pub returns : goal.returns
returns c =
    let copies : c.deref.result.now ≡ c.args.tx.now.it.inputs =
    c.deref.ensures.value ∙ ap (λ (it : ResolvedTxValue). it.inputs) c.it.view_is ∙ ap (λ (v : ShownTxValue). v.it.inputs) c.tx.view_is in
    record {
      groups = λ scene shows.
          groups-are scene c.args.tx.now.it.tx c.in_ok-list.list.items c.in_ok-locks.locks.items c.in_ok-types.types.items shows.transaction c.in_ok-list.ensures.items
          (c.in_ok-locks.ensures.groups scene.inputs (subst (λ (l : List ResolvedValue). AllZip IsShownAs l scene.inputs) (sym copies) shows.inputs))
          (c.in_ok-types.ensures.groups scene.inputs shows.inputs);
      hashes = λ scene shows.
          groups-hashed (map lock_given scene.inputs) [] (map type_given scene.inputs) (map type_made c.args.tx.now.it.tx.raw.outputs)
          c.in_ok-list.list.items c.in_ok-locks.locks.items c.in_ok-types.types.items c.in_ok-list.ensures.items
          (c.in_ok-locks.ensures.groups scene.inputs (subst (λ (l : List ResolvedValue). AllZip IsShownAs l scene.inputs) (sym copies) shows.inputs))
          (c.in_ok-types.ensures.groups scene.inputs shows.inputs);
      few = c.in_ok-list.ensures.few;
    }
