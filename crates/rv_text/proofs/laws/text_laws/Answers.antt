use Rattle.rv_text.proofs.OneWord.{one-word}
use Rattle.rv_text.proofs.OneText.{one-text}
use Rattle.rv_text.proofs.OneCode.{one-code, one-bad-line, none-bad-of-code}
use Rattle.rv_text.proofs.laws.text_laws.Goals as goal

pub returns : goal.returns
returns c = record {
  one_word = one-word;
  one_instruction = one-text;
  one_code = one-code;
  one_bad_line = one-bad-line;
  none_bad = none-bad-of-code;
}
