use Rattle.std.proofs.Common.{[], ◌∷◌, ap, sym, subst, List, ℕ}
use Rattle.run_text.specs.Items.{SourceGave}
use Rattle.run_text.specs.Whole.{IsReadWhole}
use Rattle.run_text.proofs.Limits.{item_limit-is}
use Rattle.run_explanation.proofs.explaining.read_items.Goals as goal

pub returns-clause-read : goal.returns-clause-read
returns-clause-read g c =
    subst (λ (limits : List ℕ). SourceGave (g.S.Source.left c.args.input.now) (g.S.Source.left c.read_whole.new.input)
    (IsReadWhole limits 1 (g.S.Source.left c.read_whole.new.input) c.read_whole.result))
    (ap (λ (n : ℕ). n ∷ []) (sym item_limit-is)) c.read_whole.ensures.read
