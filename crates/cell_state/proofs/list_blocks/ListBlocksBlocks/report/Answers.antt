use Rattle.std.proofs.Common.{ℕ, length, Option, Some, refl, ap}
use Rattle.std.proofs.lemmas.Option.{same_Some}
use Rattle.outside.specs.declared.disk.Damage.{Damage}
use Rattle.outside.specs.declared.disk.ReadStop.{ReadStop}
use Rattle.outside.proofs.Endings.{no_fault}
use Rattle.chain_tree.specs.Reading.{Findings}
use Rattle.chain_tree.proofs.ReadLemmas.{finds_after}
use Rattle.cell_state.specs.ListBlocks.{ListBlocksValue}
use Rattle.cell_state.proofs.list_blocks.ListBlocksBlocks.report.Goals as goal

abbrev findings : ℕ × Option Damage → Findings
findings it = record { count = it.0; last = it.1 }

pub returns-clause-read : goal.returns-clause-read
returns-clause-read c =
    let seen = c.self.view_is in
    record {
      told = ap (λ (v : ListBlocksValue). Some v.stored) seen;
      count = ap (λ (v : ListBlocksValue). length v.stored) seen;
      loans = refl;
      damage = λ damage is. c.requires.area damage (same_Some _ _ is);
      cause = no_fault _ _ refl (λ is. c.requires.no_fault (same_Some _ _ is));
      found = finds_after (ap (λ (v : ListBlocksValue). v.damages) seen) (record {
        named = λ damage is. ap findings (c.noted-found.ensures.next damage (same_Some _ _ is));
        none = λ other. ap findings (c.noted-found.ensures.same (λ damage is. other damage (ap (λ (stop : ReadStop). Some stop) is)));
      });
    }
