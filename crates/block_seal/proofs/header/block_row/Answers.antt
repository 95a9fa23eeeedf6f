use Rattle.std.proofs.Common.{ℕ, List, [], ◌∷◌, ◌++◌, length, refl, ap, ◌∙◌, arith, rules}
use Rattle.pool_rows.proofs.Fits.{of-value}
use Rattle.block_seal.proofs.Rows.{rows-of, is-table, has-room, field-of, block-is}
use Rattle.block_seal.proofs.header.block_row.Goals as goal

pub from_encoding-fields-requires : goal.from_encoding-fields-requires
from_encoding-fields-requires c = (search rules, (rows-of c.args.block.now, is-table c.bytes.result.now c.args.block.now c.bytes.ensures))

pub push-requires-2 : goal.push-requires-2
push-requires-2 c =
    let view = c.from_encoding-fields.ensures.only (rows-of c.args.block.now) (is-table c.bytes.result.now c.args.block.now c.bytes.ensures) in
    let uncles = ap length (field-of c.from_encoding-fields.result (rows-of c.args.block.now) 1 _ _ view c.field.ensures refl) in
    omega (arith, (has-room c.bytes.result.now c.args.block.now c.bytes.ensures).is, uncles, c.new-rows.ensures.size, c.in_ok-push.ensures.size, c.requires)

pub push-requires-3 : goal.push-requires-3
push-requires-3 c =
    let view = c.from_encoding-fields.ensures.only (rows-of c.args.block.now) (is-table c.bytes.result.now c.args.block.now c.bytes.ensures) in
    let uncles = ap length (field-of c.from_encoding-fields.result (rows-of c.args.block.now) 1 _ _ view c.field.ensures refl) in
    let transactions = ap length (field-of c.from_encoding-fields.result (rows-of c.args.block.now) 2 _ _ view c.field-2.ensures refl) in
    omega (arith, (has-room c.bytes.result.now c.args.block.now c.bytes.ensures).is, uncles, transactions, c.new-rows.ensures.size, c.in_ok-push.ensures.size, c.in_ok-push-2.ensures.size, c.requires)

pub push-requires-4 : goal.push-requires-4
push-requires-4 c =
    let view = c.from_encoding-fields.ensures.only (rows-of c.args.block.now) (is-table c.bytes.result.now c.args.block.now c.bytes.ensures) in
    let uncles = ap length (field-of c.from_encoding-fields.result (rows-of c.args.block.now) 1 _ _ view c.field.ensures refl) in
    let transactions = ap length (field-of c.from_encoding-fields.result (rows-of c.args.block.now) 2 _ _ view c.field-2.ensures refl) in
    let proposals = ap length (field-of c.from_encoding-fields.result (rows-of c.args.block.now) 3 _ _ view c.field-3.ensures refl) in
    omega (arith, (has-room c.bytes.result.now c.args.block.now c.bytes.ensures).is, uncles, transactions, proposals, c.new-rows.ensures.size, c.in_ok-push.ensures.size, c.in_ok-push-2.ensures.size, c.in_ok-push-3.ensures.size, c.requires)

pub returns : goal.returns
returns c = λ h head.
    let view = c.from_encoding-fields.ensures.only (rows-of c.args.block.now) (is-table c.bytes.result.now c.args.block.now c.bytes.ensures) in
    let uncles = field-of c.from_encoding-fields.result (rows-of c.args.block.now) 1 _ _ view c.field.ensures refl in
    let transactions = field-of c.from_encoding-fields.result (rows-of c.args.block.now) 2 _ _ view c.field-2.ensures refl in
    let proposals = field-of c.from_encoding-fields.result (rows-of c.args.block.now) 3 _ _ view c.field-3.ensures refl in
    let one = c.in_ok-push.ensures.ok ∙ ap (λ (rows : List (List ℕ)). rows ++ c.args.header.now ∷ []) c.new-rows.ensures.empty in
    let two = c.in_ok-push-2.ensures.ok ∙ ap (λ (rows : List (List ℕ)). rows ++ c.field.result.now ∷ []) one in
    let three = c.in_ok-push-3.ensures.ok ∙ ap (λ (rows : List (List ℕ)). rows ++ c.field-2.result.now ∷ []) two in
    let four = c.in_ok-push-4.ensures.ok ∙ ap (λ (rows : List (List ℕ)). rows ++ c.field-3.result.now ∷ []) three in
    of-value c.table.result
    (λ bytes is. block-is c.args.block.now h c.bytes.result.now bytes.items c.args.header.now c.field.result.now c.field-2.result.now c.field-3.result.now _ _
    c.bytes.ensures head uncles transactions proposals four is) c.table.ensures
