use Rattle.std.proofs.Common.{List, [], Option, Some, Err, length, ap, subst, sym, ◌∙◌}
use Rattle.std.specs.List.{All, AllZip}
use Rattle.std.proofs.lemmas.List.{length-map}
use Rattle.std.proofs.lemmas.List.Elements.{All-append, All-nil, All-same}
use Rattle.cell_state.specs.Copies.{ResolvedValue}
use Rattle.chain_tree.specs.Told.{Stored, blocks_of}
use Rattle.rule_defs.specs.Resolving.{inputs, deps}
use Rattle.tx_rules.specs.Copying.{row_in, CopiesItsRow, ServesAgain, HoldsOutput}
use Rattle.tx_rules.specs.Outcome.{Copies}
use Rattle.tx_rules.specs.Steps.{paying_rules}
use Rattle.chain_tree.proofs.ReadLemmas.{read_on}
use Rattle.tx_rules.proofs.SiteLemmas.{inputs-seen, deps-seen}
use Rattle.tx_rules.proofs.RuleLemmas.{read-stops}
use Rattle.tx_rules.proofs.RowRuleLemmas.{later-read}
use Rattle.tx_rules.proofs.resolving.copy_cells.Goals as goal

pub paid_by-requires-clause-each : goal.paid_by-requires-clause-each
paid_by-requires-clause-each g c =
    ap length c.deref-2.ensures.value ∙ sym (length-map c.in-Ok.inputs.items row_in)
    ∙ ap length (c.in-Ok.ensures.rows ∙ c.deref.ensures.value) ∙ c.requires.each

pub returns-in-Err : goal.returns-in-Err
returns-in-Err g c = record {
  read = c.in-Err.ensures.read;
  fits = tt;
  later = later-read c.in-Err.stop (λ damage same. c.in-Err.ensures.read.damage damage (ap Some same));
  exact = λ stored rows site told is found.
      read-stops (paying_rules site c.args.tx.now) c.in-Err.stop
      (λ damage same. c.in-Err.ensures.undamaged stored rows site (inputs site c.args.tx.now) told is (inputs-seen site c.args.tx.now) (c.deref.ensures.value ∙ found.spent_are)
      damage (ap Err same));
  rows = tt;
  outputs = tt;
  of_rows = tt;
  again = tt;
}

pub returns-in-Err-paid_by : goal.returns-in-Err-paid_by
returns-in-Err-paid_by g c = record {
  read = read_on c.in-Ok.ensures.read c.report.ensures.read;
  fits = tt;
  later = c.in-Err-paid_by.ensures.later;
  exact = λ stored rows site told is found.
      let copied = c.in-Ok.ensures.copied stored rows site (inputs site c.args.tx.now) told is (inputs-seen site c.args.tx.now) (c.deref.ensures.value ∙ found.spent_are) in
      c.in-Err-paid_by.ensures.exact stored rows site is
      (subst (λ (cs : List ResolvedValue). AllZip (Copies (blocks_of stored) c.args.at.now.parent) (inputs site c.args.tx.now) cs) (sym c.deref-2.ensures.value) copied)
      (c.deref-3.ensures.value ∙ found.others.places_are);
  rows = tt;
  outputs = tt;
  of_rows = tt;
  again = tt;
}

pub returns-in-Err-fetch_all : goal.returns-in-Err-fetch_all
returns-in-Err-fetch_all g c = record {
  read = read_on c.in-Ok.ensures.read c.in-Err-fetch_all.ensures.read;
  fits = tt;
  later = later-read c.in-Err-fetch_all.stop (λ damage same. c.in-Err-fetch_all.ensures.read.damage damage (ap Some same));
  exact = λ stored rows site told is found.
      read-stops (paying_rules site c.args.tx.now) c.in-Err-fetch_all.stop
      (λ damage same. c.in-Err-fetch_all.ensures.undamaged stored rows site (deps site c.args.tx.now) (c.in-Ok.ensures.read.told ∙ told) is (deps-seen site c.args.tx.now)
      (c.deref-4.ensures.value ∙ found.others.named_are) damage (ap Err same));
  rows = tt;
  outputs = tt;
  of_rows = tt;
  again = tt;
}

pub returns-in-Ok-fetch_all : goal.returns-in-Ok-fetch_all
returns-in-Ok-fetch_all g c = record {
  read = read_on c.in-Ok.ensures.read c.in-Ok-fetch_all.ensures.read;
  fits = c.in-Ok-paid_by.ensures.fits;
  later = tt;
  exact = λ stored rows site told is found.
      let copied = c.in-Ok.ensures.copied stored rows site (inputs site c.args.tx.now) told is (inputs-seen site c.args.tx.now) (c.deref.ensures.value ∙ found.spent_are) in
      let pays = c.in-Ok-paid_by.ensures.exact stored rows site is
      (subst (λ (cs : List ResolvedValue). AllZip (Copies (blocks_of stored) c.args.at.now.parent) (inputs site c.args.tx.now) cs) (sym c.deref-2.ensures.value) copied)
      (c.deref-3.ensures.value ∙ found.others.places_are) in (
        pays.0,
        record {
          inputs_are = copied;
          deps_are =
              c.in-Ok-fetch_all.ensures.copied stored rows site (deps site c.args.tx.now) (c.in-Ok.ensures.read.told ∙ told) is (deps-seen site c.args.tx.now)
              (c.deref-4.ensures.value ∙ found.others.named_are);
          paid = pays.1;
        },
      );
  rows = c.in-Ok.ensures.rows ∙ c.deref.ensures.value;
  outputs = All-append HoldsOutput c.in-Ok.inputs.items c.in-Ok-fetch_all.deps.items c.in-Ok.ensures.outputs c.in-Ok-fetch_all.ensures.outputs;
  of_rows =
      All-append (CopiesItsRow (g.B.Blocks.told c.args.blocks.now) c.args.at.now) c.in-Ok.inputs.items c.in-Ok-fetch_all.deps.items c.in-Ok.ensures.of_rows
      (subst (λ (told : Option (List Stored)). All (CopiesItsRow told c.args.at.now) c.in-Ok-fetch_all.deps.items) c.in-Ok.ensures.read.told c.in-Ok-fetch_all.ensures.of_rows);
  again =
      subst (λ (told : Option (List Stored)). All (ServesAgain told c.args.at.now) c.in-Ok-fetch_all.deps.items) c.in-Ok.ensures.read.told c.in-Ok-fetch_all.ensures.again;
}
