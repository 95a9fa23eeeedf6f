use Rattle.disk_defs.proofs.AreaLaws.{closed-is-sound, held-is-sound, its-bytes-are-sound, sound-holds-its-own, sound-has-its-number, is-of-its-tip, tells-its-rows}
use Rattle.disk_defs.proofs.areas.sound_areas.Goals as goal

pub returns : goal.returns
returns c = record {
  closed_is_sound = closed-is-sound;
  held_is_sound = held-is-sound;
  its_bytes_are_sound = its-bytes-are-sound;
  sound_holds_its_own = sound-holds-its-own;
  sound_has_its_number = sound-has-its-number;
  is_of_its_tip = is-of-its-tip;
  lists_its_rows = tells-its-rows;
}
