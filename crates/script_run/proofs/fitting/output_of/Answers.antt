use Rattle.std.proofs.Common.{◌≡◌, ℕ, List, Some, ap, sym, subst, ◌∙◌}
use Rattle.chain_defs.specs.Shape.{IsEncoding}
use Rattle.chain_defs.specs.Schema.{cell_output}
use Rattle.chain_defs.proofs.ShapeLaws.{IsEncoding-decoded}
use Rattle.cell_state.specs.Copies.{ResolvedValue}
use Rattle.script_run.proofs.FitLemmas.{output-of}
use Rattle.script_run.proofs.fitting.output_of.Goals as goal

pub from_encoding-requires : goal.from_encoding-requires
from_encoding-requires c =
    let it = output-of c.args.copy.now c.requires.typed in
    let bytes : c.deref.result.now ≡ c.args.copy.now.output = c.deref.ensures.value ∙ ap (λ (r : ResolvedValue). r.output) c.copy.view_is in
    (it.0, subst (λ (b : List ℕ). IsEncoding cell_output b it.0) (sym bytes) (IsEncoding-decoded cell_output c.args.copy.now.output it.0 it.1))

pub returns : goal.returns
returns c =
    let it = output-of c.args.copy.now c.requires.typed in
    let bytes : c.deref.result.now ≡ c.args.copy.now.output = c.deref.ensures.value ∙ ap (λ (r : ResolvedValue). r.output) c.copy.view_is in
    it.1 ∙ ap Some (sym (c.from_encoding.ensures it.0 (subst (λ (b : List ℕ). IsEncoding cell_output b it.0) (sym bytes) (IsEncoding-decoded cell_output c.args.copy.now.output it.0 it.1))))
