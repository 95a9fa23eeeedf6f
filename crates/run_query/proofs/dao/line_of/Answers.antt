use Rattle.std.proofs.Common.{Err, sym, ap, ◌∙◌, subst}
use Rattle.chain_defs.specs.Specification.{Specification}
use Rattle.node_store.specs.Queries.{FetchedValue}
use Rattle.report_defs.specs.Queries.{dao_state}
use Rattle.run_query.specs.Queries.{IsCopied}
use Rattle.run_text.proofs.Exits.{same_stop}
use Rattle.run_query.proofs.dao.line_of.Goals as goal

pub returns-in-Err-clause-sound : goal.returns-in-Err-clause-sound
returns-in-Err-clause-sound c = λ cell joined live copied is.
    let inside = subst (λ (it : FetchedValue). IsCopied cell it) (sym c.found.view_is) copied in
    let none = c.status_of_reading.ensures.none (same_stop _ _ is) in
    c.in-Err.ensures.undamaged cell joined live copied
    (c.state_of-state.ensures cell inside.copy inside.height ∙ ap (λ (spec : Specification). dao_state spec cell) c.spec.ensures)
    none.0 (ap Err none.1)
