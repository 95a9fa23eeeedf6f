use Rattle.std.proofs.Common.{◌≡◌, Err, refl, sym, ap, ◌∙◌}
use Rattle.cell_state.specs.Copies.{ResolvedTxValue}
use Rattle.verdict_defs.specs.Codes.{NoCode, ManyCodes, code_of, is_type_id}
use Rattle.script_run.specs.Shown.{GroupValue, ShownTxValue}
use Rattle.script_run.proofs.ShowingLemmas.{shown-over}
use Rattle.chain_tree.proofs.ReadLemmas.{unread, read_so}
use Rattle.script_run.specs.Running.{read_stop_of}
use Rattle.script_run.proofs.ReadLemmas.{not-there, some-stop}
use Rattle.script_run.proofs.RunningLemmas.{answer-within, as-expected, codes-in, no-read-stop, of-code, of-execution, of-type-id}
use Rattle.script_run.proofs.running.run_group.Goals as goal

pub returns-then-is_type_id : goal.returns-then-is_type_id
returns-then-is_type_id g c = record {
  read = read_so (no-read-stop c.run_type_id.result c.answered.result c.answered.ensures) (unread c.args.blocks.now);
  within = answer-within c.run_type_id.result c.answered.result c.args.left c.answered.ensures c.run_type_id.ensures.within;
  exact = λ stored scene tells shown its_hash.
      let script : c.group.inside.script ≡ c.args.group.now.group.script = ap (λ (it : GroupValue). it.group.script) c.group.view_is in
      let tx : c.it.inside.tx ≡ c.args.tx.now.it.tx =
      ap (λ (it : ResolvedTxValue). it.tx) c.it.view_is ∙ ap (λ (it : ShownTxValue). it.it.tx) c.tx.view_is in
      as-expected _ c.run_type_id.result c.answered.result
      (of-type-id scene c.args.left c.args.place c.args.group.now.group c.run_type_id.result
      (ap is_type_id (sym script) ∙ sym c.is_type_id.ensures ∙ c.if-is_type_id.true)
      (c.run_type_id.ensures.exact scene ((shown-over _ _ stored _ scene shown).shows.transaction ∙ sym tx)))
      c.answered.ensures;
  undamaged = λ told damage is. not-there _ _ (no-read-stop c.run_type_id.result c.answered.result c.answered.ensures) (ap read_stop_of is);
}

pub returns-in-NoCode : goal.returns-in-NoCode
returns-in-NoCode g c = record {
  read = unread c.args.blocks.now;
  within = tt;
  exact = λ stored scene tells shown its_hash.
      let over = shown-over _ _ stored _ scene shown in
      let script : c.group.inside.script ≡ c.args.group.now.group.script = ap (λ (it : GroupValue). it.group.script) c.group.view_is in
      of-code scene c.args.left c.args.place c.args.group.now.group NoCode
      (ap is_type_id (sym script) ∙ sym c.is_type_id.ensures ∙ c.if-is_type_id.false)
      (c.in-NoCode.ensures scene (codes-in scene c.args.codes.now c.args.tx.now c.requires.codes over.shows.deps over.second_is) ∙ ap (code_of scene.second scene.deps) script);
  undamaged = λ told damage is. not-there _ _ refl (ap read_stop_of is);
}

pub returns-in-ManyCodes : goal.returns-in-ManyCodes
returns-in-ManyCodes g c = record {
  read = unread c.args.blocks.now;
  within = tt;
  exact = λ stored scene tells shown its_hash.
      let over = shown-over _ _ stored _ scene shown in
      let script : c.group.inside.script ≡ c.args.group.now.group.script = ap (λ (it : GroupValue). it.group.script) c.group.view_is in
      of-code scene c.args.left c.args.place c.args.group.now.group ManyCodes
      (ap is_type_id (sym script) ∙ sym c.is_type_id.ensures ∙ c.if-is_type_id.false)
      (c.in-ManyCodes.ensures scene (codes-in scene c.args.codes.now c.args.tx.now c.requires.codes over.shows.deps over.second_is) ∙ ap (code_of scene.second scene.deps) script);
  undamaged = λ told damage is. not-there _ _ refl (ap read_stop_of is);
}

pub returns-in-Ok : goal.returns-in-Ok
returns-in-Ok g c = record {
  read = read_so (no-read-stop c.executed.result c.answered-in-Ok.result c.answered-in-Ok.ensures) c.in-Ok.ensures.read;
  within = answer-within c.executed.result c.answered-in-Ok.result c.args.left c.answered-in-Ok.ensures c.executed.ensures.within;
  exact = λ stored scene tells shown its_hash.
      let over = shown-over _ _ stored _ scene shown in
      let script : c.group.inside.script ≡ c.args.group.now.group.script = ap (λ (it : GroupValue). it.group.script) c.group.view_is in
      as-expected _ c.executed.result c.answered-in-Ok.result
      (of-execution scene c.args.left c.args.place c.args.group.now.group c.in-At.code.now _ c.executed.result
      (ap is_type_id (sym script) ∙ sym c.is_type_id.ensures ∙ c.if-is_type_id.false)
      (c.in-At.ensures scene (codes-in scene c.args.codes.now c.args.tx.now c.requires.codes over.shows.deps over.second_is) ∙ ap (code_of scene.second scene.deps) script)
      (c.in-Ok.ensures.came stored scene tells shown its_hash)
      c.executed.ensures.exact)
      c.answered-in-Ok.ensures;
  undamaged = λ told damage is. not-there _ _ (no-read-stop c.executed.result c.answered-in-Ok.result c.answered-in-Ok.ensures) (ap read_stop_of is);
}

pub returns-in-Err : goal.returns-in-Err
returns-in-Err g c = record {
  read = c.in-Err.ensures.read;
  within = tt;
  exact = λ stored scene tells shown its_hash. tt;
  undamaged = λ told damage is. c.in-Err.ensures.undamaged told damage (ap Err (some-stop _ _ (ap read_stop_of is)));
}
