-- An input has at most one report.
use Rattle.std.proofs.Common.{◌≡◌, ◌⊎◌, inl, inr, ℕ, ◌<◌, ◌≤◌, List, length, refl, sym, ap, ◌∙◌, arith}
use Rattle.std.specs.Prelude.{Option, Some, None}
use Rattle.chain_defs.specs.Shape.{encoded, IsEncoding}
use Rattle.chain_defs.specs.Schema as schema
use Rattle.machine_defs.specs.Assembly.{lines_of}
use Rattle.machine_defs.specs.File.{elf_file}
use Rattle.machine_defs.specs.TextLaws.{OneCodeAssembles, OneLineIsFirstBad, NoneIsBadOfCode}
use Rattle.json_defs.specs.Blocks as form
use Rattle.json_defs.specs.Laws.{IsOneOfText}
use Rattle.store_defs.specs.Store.{Store}
use Rattle.report_defs.specs.declared.command.Command.{Command}
use Rattle.report_defs.specs.declared.command.Command.TheVariants.{Init, Import, Migrate, Query, Question, Standalone, Simulation}
use Rattle.report_defs.specs.declared.command.Standalone as files
use Rattle.report_defs.specs.declared.command.Standalone.TheVariants.{Exec, Asm, Dis, Unjson}
use Rattle.report_defs.specs.declared.command.Simulation as simulations
use Rattle.report_defs.specs.declared.command.Simulation.TheVariants.{Make, Soak}
use Rattle.report_defs.specs.declared.status.Status.TheVariants.{Done, SomeRefused}
use Rattle.report_defs.specs.Text.{bad_line, soak_line}
use Rattle.report_defs.specs.Report.{Report, report_without_lines, IsBlockOf, IsAnswerToFile, IsReportOfFile, IsReportOfSimulation, IsReport}
use Rattle.report_defs.specs.Laws.{IsPinnedSimulation, OneReport}

module _ (one_code : OneCodeAssembles) (one_bad_line : OneLineIsFirstBad) (none_bad : NoneIsBadOfCode) (one_block : IsOneOfText form.block schema.block) where
  -- a text has the encoding of one block
  one-encoding : (text encoding other : List ℕ) → IsBlockOf text encoding → IsBlockOf text other → encoding ≡ other
  one-encoding text encoding other a b =
      let same : a.0 ≡ b.0 = one_block a.0 b.0 text a.1.fits b.1.fits a.2 b.2 in
      a.1.encoding ∙ ap (encoded schema.block) same ∙ sym b.1.encoding

  one-answer : (command : files.Standalone) (file : List ℕ) (one other : Report) → IsAnswerToFile command file one → IsAnswerToFile command file other → one ≡ other
  one-answer (Exec budget) file one other a b = a ∙ sym b
  one-answer Asm file one other (inl a) (inl b) =
      a.2 ∙ ap (λ code. report_without_lines (elf_file code) Done) (one_code (lines_of file) a.0 b.0 a.1 b.1) ∙ sym b.2
  one-answer Asm file one other (inl a) (inr b) = absurd (none_bad (lines_of file) a.0 b.0 a.1 b.1)
  one-answer Asm file one other (inr a) (inl b) = absurd (none_bad (lines_of file) b.0 a.0 b.1 a.1)
  one-answer Asm file one other (inr a) (inr b) =
      a.2 ∙ ap (λ number. report_without_lines (bad_line number) SomeRefused) (one_bad_line (lines_of file) a.0 b.0 a.1 b.1) ∙ sym b.2
  one-answer Dis file one other a b = a ∙ sym b
  one-answer Unjson file one other (inl a) (inl b) = a.2 ∙ ap (λ bytes. report_without_lines bytes Done) (one-encoding file a.0 b.0 a.1 b.1) ∙ sym b.2
  one-answer Unjson file one other (inl a) (inr b) = absurd (b.0 a.0 a.1)
  one-answer Unjson file one other (inr a) (inl b) = absurd (a.0 b.0 b.1)
  one-answer Unjson file one other (inr a) (inr b) = a.1 ∙ sym b.1

  not-both : (a b : ℕ) → a < b → b ≤ a → ⊥
  not-both a b less most = omega (arith, less, most)

  one-of-file : (command : files.Standalone) (file : List ℕ) (one other : Report) → IsReportOfFile command file one → IsReportOfFile command file other → one ≡ other
  one-of-file command file one other (inl a) (inl b) = a.1 ∙ sym b.1
  one-of-file command file one other (inl a) (inr b) = absurd (not-both _ _ a.0 b.0)
  one-of-file command file one other (inr a) (inl b) = absurd (not-both _ _ b.0 a.0)
  one-of-file command file one other (inr a) (inr b) = one-answer command file one other a.1 b.1

  one-of-simulation : (simulation : simulations.Simulation) (one other : Report) → IsPinnedSimulation simulation
      → IsReportOfSimulation simulation one → IsReportOfSimulation simulation other → one ≡ other
  one-of-simulation (Make seed count) one other pinned a b = a.2 ∙ ap (λ text. report_without_lines text Done) (a.1 ∙ sym b.1) ∙ sym b.2
  one-of-simulation (Soak seed count) one other pinned a b =
      let same : a.1.0 ≡ b.1.0 = a.1.1 pinned ∙ sym (b.1.1 pinned) in
      a.2 ∙ ap (λ text. report_without_lines text Done) (a.1.2 ∙ ap (soak_line count) same ∙ sym b.1.2) ∙ sym b.2

  pub one-report : OneReport
  one-report None input store one other pinned a b = a ∙ sym b
  one-report (Some Init) input store one other pinned a b = a ∙ sym b
  one-report (Some (Import watched)) input store one other pinned a b = a ∙ sym b
  one-report (Some (Migrate epoch)) input store one other pinned a b = a ∙ sym b
  one-report (Some (Query query)) input store one other pinned a b = a ∙ sym b
  one-report (Some (Question question)) input store one other pinned a b = a ∙ sym b
  one-report (Some (Standalone command)) input store one other pinned a b = one-of-file command input one other a b
  one-report (Some (Simulation simulation)) input store one other pinned a b = one-of-simulation simulation one other pinned a b
