use Rattle.std.proofs.Common.{◌≡◌, List, Option, Ok, Err, length, ap, subst, ◌∙◌, arith}
use Rattle.std.specs.Prelude.{IfSome}
use Rattle.chain_tree.specs.Told.{Stored}
use Rattle.chain_defs.specs.Row.{Row}
use Rattle.tx_rules.specs.At.{AtValue}
use Rattle.outside.specs.declared.disk.ReadStop.{ReadStop}
use Rattle.outside.proofs.Endings.{no_answer}
use Rattle.chain_tree.proofs.ReadLemmas.{unread}
use Rattle.tx_rules.proofs.SiteLemmas.{copied-of-kept, copied-of-own, none-past}
use Rattle.tx_rules.proofs.TakenLemmas.{kept-row, judged-row}
use Rattle.tx_rules.proofs.copying.copy_row.Goals as goal

pub returns-then-meta-kept : goal.returns-then-meta-kept
returns-then-meta-kept g c =
    let place : c.meta.inside.block ≡ c.args.meta.block = ap (λ (row : Row). row.block) c.meta.view_is in
    let long : c.len-kept.result ≡ length c.args.at.now.entries = c.len-kept.ensures.len ∙ ap (λ (at : AtValue). length at.entries) c.at.view_is in
    record {
      read = c.copy_kept.ensures.read;
      out_point = c.copy_kept.ensures.out_point;
      row = c.copy_kept.ensures.row;
      output = c.copy_kept.ensures.output;
      copied = λ stored rows site found tells is found_at.
          c.copy_kept.ensures.copied stored found.cell tells
          (copied-of-kept stored c.args.at.now rows site found c.args.o c.args.meta c.requires.placed.parent is found_at (omega (arith, place, long)));
      of_row =
          kept-row (g.B.Blocks.told c.args.blocks.now) c.args.at.now c.args.o c.args.meta c.copy_kept.result c.copy_kept.ensures.out_point c.copy_kept.ensures.row
          (omega (arith, place, long)) c.copy_kept.ensures.exact;
      undamaged = λ stored rows site found tells is found_at.
          c.copy_kept.ensures.undamaged stored found.cell tells
          (copied-of-kept stored c.args.at.now rows site found c.args.o c.args.meta c.requires.placed.parent is found_at (omega (arith, place, long)));
    }

pub report-requires : goal.report-requires
report-requires g c = record {
  area = λ damage is. c.in-Err.ensures.damage damage (ap Err is);
  no_fault = λ is. c.in-Err.ensures.unread (ap Err is);
}

pub returns-in-Ok : goal.returns-in-Ok
returns-in-Ok g c =
    let place : c.meta.inside.block ≡ c.args.meta.block = ap (λ (row : Row). row.block) c.meta.view_is in
    let long : c.len-kept.result ≡ length c.args.at.now.entries = c.len-kept.ensures.len ∙ ap (λ (at : AtValue). length at.entries) c.at.view_is in
    record {
      read = unread c.args.blocks.now;
      out_point = c.in-Ok.ensures.out_point;
      row = c.in-Ok.ensures.row;
      output = c.in-Ok.ensures.output;
      copied = λ stored rows site found tells is found_at.
          let own = copied-of-own stored c.args.at.now rows site found c.args.o c.args.meta c.requires.placed.parent is found_at (omega (arith, place, long)) in
          c.in-Ok.ensures.copied own.0 found.cell own.1 own.2;
      of_row =
          judged-row {E = ReadStop} (g.B.Blocks.told c.args.blocks.now) c.args.at.now c.args.o c.args.meta (Ok c.in-Ok.copy) c.in-Ok.ensures.out_point c.in-Ok.ensures.row
          (λ stored tells. subst (λ (t : Option (List Stored)). IfSome t (λ all. length all ≡ g.B.Blocks.count c.args.blocks.now)) tells (g.met.B.Blocks.told_all c.args.blocks.now)
          ∙ c.requires.counts) (omega (arith, place, long)) c.in-Ok.ensures.judged;
      undamaged = λ stored rows site found tells is found_at damage same. no_answer _ _ same;
    }

pub returns-in-Err : goal.returns-in-Err
returns-in-Err g c =
    let place : c.meta.inside.block ≡ c.args.meta.block = ap (λ (row : Row). row.block) c.meta.view_is in
    let long : c.len-kept.result ≡ length c.args.at.now.entries = c.len-kept.ensures.len ∙ ap (λ (at : AtValue). length at.entries) c.at.view_is in
    record {
      read = c.report.ensures.read;
      out_point = tt;
      row = tt;
      output = tt;
      copied = λ stored rows site found tells is found_at. tt;
      of_row = tt;
      undamaged = λ stored rows site found tells is found_at.
          let own = copied-of-own stored c.args.at.now rows site found c.args.o c.args.meta c.requires.placed.parent is found_at (omega (arith, place, long)) in
          c.in-Err.ensures.undamaged own.0 found.cell own.1 own.2;
    }

pub returns-else-meta-kept-2 : goal.returns-else-meta-kept-2
returns-else-meta-kept-2 g c =
    let place : c.meta.inside.block ≡ c.args.meta.block = ap (λ (row : Row). row.block) c.meta.view_is in
    let long : c.len-kept.result ≡ length c.args.at.now.entries = c.len-kept.ensures.len ∙ ap (λ (at : AtValue). length at.entries) c.at.view_is in
    record {
      read = c.report-else-meta-kept-2.ensures.read;
      out_point = tt;
      row = tt;
      output = tt;
      copied = λ stored rows site found tells is found_at. tt;
      of_row = tt;
      undamaged = λ stored rows site found tells is found_at damage same.
          none-past stored c.args.at.now rows site found c.args.o c.args.meta c.requires.placed.parent is found_at (omega (arith, place, long));
    }
