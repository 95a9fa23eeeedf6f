use Rattle.std.proofs.Common.{ℕ, Bool, cond, List, Option, Some, None, sym, ap, ◌∙◌, arith}
use Rattle.std.specs.List.{list_any}
use Rattle.std.proofs.lemmas.Grind.{common_steps}
use Rattle.std.proofs.lemmas.List.{nil_from_length}
use Rattle.std.specs.Str.{bytes_eq}
use Rattle.std.specs.HashMap.{get}
use Rattle.chain_defs.specs.Branch.{branch}
use Rattle.chain_tree.specs.Told.{blocks_of}
use Rattle.outside.proofs.Endings.{handed, memory_undamaged, no_answer}
use Rattle.chain_tree.proofs.ReadLemmas.{unread, read_short}
use Rattle.rewards.proofs.StartLemmas.{starts-none}
use Rattle.rewards.proofs.starts.starts_at.Goals as goal

pub returns-in-Ok-move_over : goal.returns-in-Ok-move_over
returns-in-Ok-move_over g c = record {
  read = c.in-Ok-move_over.ensures.read;
  undamaged = λ stored tells damage same. no_answer _ _ same;
  starts = λ stored asked tells indexes are.
      c.in-Ok-move_over.ensures.starts stored asked tells indexes
      (λ id. c.in-Ok.ensures id ∙ ap (λ (b : Bool). cond {A = Option ℕ} b (Some 0) None) (are id));
}

pub returns-in-Err-move_over : goal.returns-in-Err-move_over
returns-in-Err-move_over g c = record {
  read = c.in-Err-move_over.ensures.read;
  undamaged = λ stored tells damage same. c.in-Err-move_over.ensures.undamaged stored tells damage (handed c.in-Err-move_over.stop _ same);
  starts = λ stored asked tells indexes are.
      c.in-Err-move_over.ensures.starts stored asked tells indexes
      (λ id. c.in-Ok.ensures id ∙ ap (λ (b : Bool). cond {A = Option ℕ} b (Some 0) None) (are id));
}

pub returns-in-Err-clause-read : goal.returns-in-Err-clause-read
returns-in-Err-clause-read g c = read_short (unread c.args.blocks.now)

pub returns-in-Err-clause-undamaged : goal.returns-in-Err-clause-undamaged
returns-in-Err-clause-undamaged g c stored tells damage same = memory_undamaged damage same

pub returns-then-is_empty : goal.returns-then-is_empty
returns-then-is_empty g c = record {
  read = unread c.args.blocks.now;
  undamaged = λ stored tells damage same. no_answer _ _ same;
  starts = λ stored asked tells indexes are.
      starts-none c.args.spec.now (branch (blocks_of stored) c.args.parent) asked c.args.proposer (get bytes_eq c.in-Ok.starts)
      (λ id. c.in-Ok.ensures id ∙ ap (λ (l : List (List ℕ)). cond {A = Option ℕ} (list_any (λ other. bytes_eq other id) l) (Some 0) None) (nil_from_length c.args.ids.now (grind (arith, common_steps))))
      (λ id. sym (ap (λ (l : List (List ℕ)). list_any (λ other. bytes_eq other id) l) (nil_from_length c.args.ids.now (grind (arith, common_steps)))) ∙ are id);
}
