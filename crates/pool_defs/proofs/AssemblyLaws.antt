-- The laws of what becomes of the items.
use Rattle.std.proofs.Common.{◌≡◌, ℕ, suc, ◌+◌, List, [], ◌∷◌, ◌++◌, length, drop, refl, sym, ap, ◌∙◌, subst, arith}
use Rattle.std.specs.Prelude.{IsTrue}
use Rattle.std.proofs.lemmas.List.{append-nil, append_assoc}
use Rattle.std.proofs.lemmas.List.Elements.{All-nil}
use Rattle.chain_defs.specs.Schema.{Transaction, Block, CellbaseWitness}
use Rattle.chain_defs.specs.First.{AllHold}
use Rattle.chain_defs.specs.Fold.{keep}
use Rattle.chain_defs.proofs.FoldLemmas.{keep-append}
use Rattle.chain_defs.specs.Specification.{Specification}
use Rattle.chain_defs.specs.Tip.{best_branch}
use Rattle.rule_defs.specs.Body.{has_proposals}
use Rattle.verdict_defs.specs.Transactions.{rules_of_transactions, rules_from}
use Rattle.pool_defs.specs.Start.{started, sealed, committed}
use Rattle.pool_defs.specs.Assembly.{Assembly, start, take_item, assembly, assembled}
use Rattle.pool_defs.specs.Laws.{LinesStay, TransactionsKeepTheirRules, CommitsStand, left_from}
use Rattle.pool_defs.specs.declared.line.Line.{Line}
use Rattle.pool_defs.proofs.StepLemmas.{by_step, keep_all}
use Rattle.pool_defs.proofs.RulesLemmas.{rules-agree}
use Rattle.pool_defs.proofs.ItemLemmas.{Holds, holds-next, agrees, still-committed, after-first}

-- ---- The lines

one-line : (spec : Specification) (branch : List Block) (so_far : Assembly) (item : List ℕ)
    → (line : Line) × ((take_item spec branch so_far item).lines ≡ so_far.lines ++ line ∷ [])
one-line spec branch so_far item =
    by_step spec branch so_far item (λ after. (line : Line) × (after.lines ≡ so_far.lines ++ line ∷ []))
    (λ line none. (line, refl)) (λ t is keeps. (_, refl)) (λ t is unbroken. (_, refl))

lines-from : (spec : Specification) (branch : List Block) (so_far : Assembly) (items : List (List ℕ))
    → (rest : List Line) × ((keep (take_item spec branch) so_far items).lines ≡ so_far.lines ++ rest) × (length rest ≡ length items)
lines-from spec branch so_far [] = ([], sym (append-nil so_far.lines), refl)
lines-from spec branch so_far (item ∷ items) =
    let one = one-line spec branch so_far item in
    let more = lines-from spec branch (take_item spec branch so_far item) items in
    (one.0 ∷ more.0, more.1 ∙ ap (λ (earlier : List Line). earlier ++ more.0) one.1 ∙ append_assoc so_far.lines (one.0 ∷ []) more.0, ap suc more.2)

pub lines-stay : LinesStay
unfolding assembled assembly
lines-stay chain witness items more =
    let branch : List Block = best_branch chain.blocks in
    let first : Assembly = start chain.spec branch witness in
    let all = lines-from chain.spec branch first items in
    let rest = lines-from chain.spec branch (keep (take_item chain.spec branch) first items) more in (
      ap length all.1 ∙ all.2,
      (rest.0, ap (λ (after : Assembly). after.lines) (keep-append (take_item chain.spec branch) first items more) ∙ rest.1),
    )

-- ---- What holds after all items

ids-started : (spec : Specification) (branch : List Block) (witness : CellbaseWitness) → IsTrue (has_proposals spec (started spec branch witness))
ids-started spec branch witness = grind arith

holds-started : (spec : Specification) (branch : List Block) (witness : CellbaseWitness) → Holds spec branch [] (start spec branch witness)
unfolding rules_from left_from
holds-started spec branch witness = record {
  some = omega arith;
  uncles = refl;
  header = refl;
  ids = ids-started spec branch witness;
  rules = All-nil (λ rule. IsTrue rule.1);
  left = refl;
  count = refl;
  commits = λ i paid cycles there. absurd (cc);
}

pub holds-all : (spec : Specification) (branch : List Block) (witness : CellbaseWitness) (items : List (List ℕ))
    → Holds spec branch items (assembly spec branch witness items)
unfolding assembly
holds-all spec branch witness items =
    keep_all (Holds spec branch) (take_item spec branch) (λ done kept item holds. holds-next spec branch done item kept holds) [] items
    (start spec branch witness) (holds-started spec branch witness)

-- The sealed block has the same timestamp and transactions.
timestamp-sealed : (spec : Specification) (branch : List Block) (b : Block) → b.header.timestamp ≡ (sealed spec branch b).header.timestamp
unfolding committed
timestamp-sealed spec branch b = refl

pub rules-sealed : (spec : Specification) (branch : List Block) (done : List (List ℕ)) (all : Assembly) → Holds spec branch done all
    → AllHold (rules_of_transactions spec branch (sealed spec branch all.block))
rules-sealed spec branch done all holds =
    let b : Block = all.block in
    let rest : List Transaction = drop 1 b.transactions in
    subst AllHold (rules-agree spec branch b (sealed spec branch b) 1 spec.max_cycles rest
    (agrees spec branch b (sealed spec branch b) [] (timestamp-sealed spec branch b) (sym (append-nil b.transactions)) (1 + length rest) (omega (arith, after-first b.transactions holds.some)))) holds.rules

pub transactions-keep : TransactionsKeepTheirRules
unfolding assembled
transactions-keep chain witness items =
    let branch : List Block = best_branch chain.blocks in
    rules-sealed chain.spec branch items (assembly chain.spec branch witness items) (holds-all chain.spec branch witness items)

pub commits-stand : CommitsStand
unfolding assembled
commits-stand chain witness items i paid cycles there =
    let branch : List Block = best_branch chain.blocks in
    let all : Assembly = assembly chain.spec branch witness items in
    let found = (holds-all chain.spec branch witness items).commits i paid cycles there in (
      found.0,
      found.1,
      found.2,
      found.3,
      still-committed chain.spec branch all.block (sealed chain.spec branch all.block) [] (timestamp-sealed chain.spec branch all.block)
          (sym (append-nil all.block.transactions)) found.1 paid cycles found.4,
    )
