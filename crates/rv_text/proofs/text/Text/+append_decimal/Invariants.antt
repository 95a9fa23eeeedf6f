use Rattle.rv_text.proofs.text.Text.+append_decimal.Given as goal

abbrev pub decreases-append_decimal : goal.decreases-append_decimal
decreases-append_decimal l = l.number
