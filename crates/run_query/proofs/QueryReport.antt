-- What is printed of a query.
use Rattle.std.proofs.Common.{◌≡◌, inl, inr, ℕ, List, [], refl, ap, sym, ◌∙◌, subst, append-nil}
use Rattle.std.specs.Prelude.{Option, Some}
use Rattle.chain_defs.specs.Schema.{Block}
use Rattle.chain_defs.specs.Kept.{block_hash}
use Rattle.verdict_defs.specs.Chain.{Chain}
use Rattle.report_defs.specs.declared.command.Query.{Query}
use Rattle.report_defs.specs.declared.status.Status.{Status}
use Rattle.report_defs.specs.declared.status.Status.TheVariants.{Done}
use Rattle.report_defs.specs.Text.{tip_line, tip_line_of}
use Rattle.report_defs.specs.Report.{text_of, answer_to_query, report_of_query}
use Rattle.report_defs.specs.Promise.{IsPrefix, IsStoppedBeforeTheSink}
use Rattle.run_text.specs.Output.{IsStop, IsWrittenAnswer}
use Rattle.run_text.specs.Store.{IsQueryPrinted}
use Rattle.run_text.proofs.Statuses.{stop_not_reported, is_early, not_early}

pub tip_line_is : (found : Option Block) (block : Block) (number : ℕ) (hash line : List ℕ) → found ≡ Some block → number ≡ block.header.number → hash ≡ block_hash block
    → line ≡ tip_line_of number hash → line ≡ tip_line found
tip_line_is found block number hash line is number_is hash_is line_is =
    line_is ∙ ap (λ n. tip_line_of n hash) number_is ∙ ap (tip_line_of block.header.number) hash_is ∙ sym (ap (λ (b : Option Block). tip_line b) is)

-- no answer was found
pub query_stopped : (query : Query) (chain : Chain) (left : Option (List ℕ)) (status : Status) → IsStop status → IsQueryPrinted query chain left [] status
query_stopped query chain left status stop = (
  record {
    prefix = λ more at. (text_of (report_of_query query chain), refl);
    whole_text = λ more at told. absurd (stop_not_reported status stop told);
    same_status = λ more at told. absurd (stop_not_reported status stop told);
  },
  record { unread = refl; silent = λ early. refl },
)

-- it was printed, or a part of it
pub query_printed : (query : Query) (chain : Chain) (left : Option (List ℕ)) (taken text : List ℕ) (result : Status) → text ≡ answer_to_query query chain
    → IsWrittenAnswer text Done result taken → IsQueryPrinted query chain left taken result
query_printed query chain left taken text result is (inl told) = (
  record {
    prefix = λ more at. ([], sym (told.0 ∙ is) ∙ sym (append-nil taken));
    whole_text = λ more at reported. told.0 ∙ is;
    same_status = λ more at reported. told.1;
  },
  record { unread = refl; silent = λ early. absurd (is_early Done (subst IsStoppedBeforeTheSink told.1 early)) },
)
query_printed query chain left taken text result is (inr failed) = (
  record {
    prefix = λ more at. subst (IsPrefix taken) is failed.0.prefix;
    whole_text = λ more at reported. absurd (stop_not_reported result (subst IsStop (sym failed.1) tt) reported);
    same_status = λ more at reported. absurd (stop_not_reported result (subst IsStop (sym failed.1) tt) reported);
  },
  record { unread = refl; silent = λ early. absurd (not_early result failed.1 early) },
)
