use Rattle.std.proofs.Common.{◌≡◌, ℕ, Some, subst, ap, sym, ◌∙◌}
use Rattle.std.specs.Option.{option_map}
use Rattle.chain_defs.specs.Shape.{encoded}
use Rattle.chain_defs.specs.Schema.{script, transaction}
use Rattle.chain_defs.specs.Hashes.{transaction_hash}
use Rattle.cell_state.specs.Copies.{ResolvedTxValue}
use Rattle.machine_defs.specs.World.{Here}
use Rattle.verdict_defs.specs.Items.{header_at, listed}
use Rattle.script_run.specs.Lookups.{IsOfKept, ShowsHeaders, header_part}
use Rattle.script_run.specs.Shown.{GroupValue, Shows, ShownTxValue}
use Rattle.script_run.proofs.LookLemmas.{found}
use Rattle.script_run.proofs.items.look_up.Goals as goal

pub returns-in-Transaction-clause-found : goal.returns-in-Transaction-clause-found
returns-in-Transaction-clause-found c headers scene shows among same =
    let tx : scene.transaction ≡ c.it.inside.tx = shows.transaction ∙ sym (ap (λ (t : ShownTxValue). t.it.tx) c.tx.view_is) ∙ sym (ap (λ (t : ResolvedTxValue). t.tx) c.it.view_is) in
    c.in-Transaction.ensures scene c.args.group.now ∙ ap Here (ap (encoded transaction) tx ∙ sym c.bytes.ensures.encoding) ∙ c.slice.ensures

pub returns-in-Script-clause-found : goal.returns-in-Script-clause-found
returns-in-Script-clause-found c headers scene shows among same =
    c.in-Script.ensures scene c.args.group.now
    ∙ ap Here (sym (c.bytes-in-Script.ensures.encoding ∙ ap (λ (g : GroupValue). encoded script g.group.script) c.group.view_is)) ∙ c.slice-in-Script.ensures

pub returns-in-TxHash-clause-found : goal.returns-in-TxHash-clause-found
returns-in-TxHash-clause-found c headers scene shows among same =
    c.in-TxHash.ensures scene c.args.group.now
    ∙ ap Here (ap transaction_hash shows.transaction ∙ sym shows.hash ∙ sym (ap (λ (t : ShownTxValue). t.it.hash) c.tx.view_is) ∙ sym (ap (λ (t : ResolvedTxValue). t.hash) c.it.view_is))

pub returns-in-ScriptHash-clause-found : goal.returns-in-ScriptHash-clause-found
returns-in-ScriptHash-clause-found c headers scene shows among same =
    c.in-ScriptHash.ensures scene c.args.group.now ∙ ap Here (sym (ap (λ (g : GroupValue). g.hash) c.group.view_is))

pub returns-in-Cell-clause-found : goal.returns-in-Cell-clause-found
returns-in-Cell-clause-found c headers scene shows among same =
    c.in-Cell.ensures scene c.args.group.now ∙ c.cell.ensures scene shows

pub returns-in-Header-clause-found : goal.returns-in-Header-clause-found
returns-in-Header-clause-found c headers scene shows among same =
    let here : Shows c.tx.inside.it.now scene = subst (λ (t : ResolvedTxValue). Shows t scene) (sym (ap (λ (t : ShownTxValue). t.it) c.tx.view_is)) shows in
    let headers_here : ShowsHeaders headers c.tx.inside.it.now scene = subst (λ (t : ResolvedTxValue). ShowsHeaders headers t scene) (sym (ap (λ (t : ShownTxValue). t.it) c.tx.view_is)) among in
    found headers c.args.tx.now.epoch_length _ _ c.header.result
    (c.in-Header.ensures scene c.args.group.now
    ∙ ap (λ (n : ℕ). listed c.args.group.now.group c.args.call.now (header_at scene) (option_map (λ part h. Some (header_part n part h)) c.in-Header.part)) same)
    (c.header.ensures.found headers c.args.tx.now.epoch_length scene here headers_here)

pub returns-in-Input-clause-found : goal.returns-in-Input-clause-found
returns-in-Input-clause-found c headers scene shows among same =
    let here : Shows c.tx.inside.it.now scene = subst (λ (t : ResolvedTxValue). Shows t scene) (sym (ap (λ (t : ShownTxValue). t.it) c.tx.view_is)) shows in
    c.in-Input.ensures scene c.args.group.now ∙ c.input.ensures scene here

pub returns-in-Witness-clause-found : goal.returns-in-Witness-clause-found
returns-in-Witness-clause-found c headers scene shows among same =
    let here : Shows c.tx.inside.it.now scene = subst (λ (t : ResolvedTxValue). Shows t scene) (sym (ap (λ (t : ShownTxValue). t.it) c.tx.view_is)) shows in
    c.in-Witness.ensures scene c.args.group.now ∙ c.witness.ensures scene here

pub returns-in-Nothing-clause-found : goal.returns-in-Nothing-clause-found
returns-in-Nothing-clause-found c headers scene shows among same = c.in-Nothing.ensures scene c.args.group.now

pub returns-in-Header-clause-kept : goal.returns-in-Header-clause-kept
returns-in-Header-clause-kept c =
    let kept : c.tx.inside.kept ≡ c.args.tx.now.kept = ap (λ (v : ShownTxValue). v.kept) c.tx.view_is in
    subst (λ (n : ℕ). IsOfKept n c.header.result) kept (c.header.ensures.kept c.tx.inside.kept c.tx.invariant.1.kept_all)
