use Rattle.std.proofs.Common.{rules, ◌≡◌, ◌+◌, ◌/◌, length, arith, length-append, ap, ◌∙◌}
use Rattle.std.specs.Fmt.{decimal}
use Rattle.rv_text.proofs.Digits.{one-more-digit, one-digit, appended-tenth, appended-digit}
use Rattle.rv_text.proofs.text.Text.+append_decimal.Goals as goal
use Rattle.rv_text.proofs.text.Text.+append_decimal.Goals.{then-number-ge10, else-number-ge10}

pub append_decimal-requires : goal.append_decimal-requires
append_decimal-requires t c =
    let more = one-more-digit c.args.number c.if-number-ge10.true (omega arith) in
    (search rules, omega (arith, c.requires, more))

pub push-requires : goal.push-requires
push-requires t c =
    elim c.if-number-ge10.branch [
      | then-number-ge10 w ↦
          (let more = one-more-digit c.args.number w.if-number-ge10.true (omega arith) in
          let size : length c.if-number-ge10.self ≡ length c.args.self.now + length (decimal (c.args.number / 10)) =
          ap length (w.self-is ∙ w.append_decimal.ensures) ∙ length-append c.args.self.now (decimal (c.args.number / 10)) in
          omega (arith, c.requires, more, size))
      | else-number-ge10 w ↦
          (let one = one-digit c.args.number w.if-number-ge10.false in
          let size : length c.if-number-ge10.self ≡ length c.args.self.now = ap length w.self-is in
          omega (arith, c.requires, one, size))
    ]

pub returns : goal.returns
returns t c =
    elim c.if-number-ge10.branch [
      | then-number-ge10 w ↦ appended-tenth c.args.self.now c.if-number-ge10.self c.push.new.self c.args.number w.if-number-ge10.true (omega arith) (w.self-is ∙ w.append_decimal.ensures) c.push.ensures
      | else-number-ge10 w ↦ appended-digit c.args.self.now c.if-number-ge10.self c.push.new.self c.args.number w.if-number-ge10.false w.self-is c.push.ensures
    ]
