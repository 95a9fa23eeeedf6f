use Rattle.std.proofs.Common.{[], ◌∷◌, ap, sym, ◌∙◌, subst, refl, List, ℕ}
use Rattle.report_defs.specs.Report.{question_items}
use Rattle.run_text.specs.Items.{SourceGave}
use Rattle.run_text.specs.Whole.{IsReadWhole}
use Rattle.run_text.proofs.Limits.{item_limit-is}
use Rattle.run_question.proofs.AssemblyLemmas.{limits-are}
use Rattle.run_question.proofs.questions.read_items.Goals as goal

pub returns-in-Check-clause-read : goal.returns-in-Check-clause-read
returns-in-Check-clause-read g c =
    subst (λ (limits : List ℕ). SourceGave (g.S.Source.left c.args.input.now) (g.S.Source.left c.read_whole.new.input)
    (IsReadWhole limits 1 (g.S.Source.left c.read_whole.new.input) c.read_whole.result))
    (ap (λ (n : ℕ). n ∷ []) (sym item_limit-is) ∙ ap question_items (sym c.in-Check.is)) c.read_whole.ensures.read

pub returns-in-Assemble-clause-read : goal.returns-in-Assemble-clause-read
returns-in-Assemble-clause-read g c =
    subst (λ (limits : List ℕ). SourceGave (g.S.Source.left c.args.input.now) (g.S.Source.left c.read_whole-in-Assemble.new.input)
    (IsReadWhole limits 1 (g.S.Source.left c.read_whole-in-Assemble.new.input) c.read_whole-in-Assemble.result))
    (limits-are 1048576 1001 refl refl ∙ ap question_items (sym c.in-Assemble.is)) c.read_whole-in-Assemble.ensures.read
