use Rattle.chain_tree.proofs.ReadLemmas.{read_on}
use Rattle.transaction_page.proofs.transaction.explain_scripts.Goals as goal

pub returns-in-Ok : goal.returns-in-Ok
returns-in-Ok g c = record { read = read_on c.in-Ok.ensures.read c.explain_groups.ensures.read }
