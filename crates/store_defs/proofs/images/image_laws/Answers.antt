use Rattle.store_defs.proofs.SnapshotLemmas.{stays_sound_after_an_item, stands_by_parts, stands_by_its_log, stands_without_snapshots, stands_with_sound_area, stands_with_closed_area, stands_with_snapshot, stands_where_it_says_the_same, sound_stands_for_the_same, stands_for_what_it_keeps, numbers_differ}
use Rattle.store_defs.proofs.images.image_laws.Goals as goal

pub returns : goal.returns
returns c = record {
  stays_sound_after_an_item = stays_sound_after_an_item;
  stands_by_parts = stands_by_parts;
  stands_by_its_log = stands_by_its_log;
  stands_without_snapshots = stands_without_snapshots;
  stands_with_sound_area = stands_with_sound_area;
  stands_with_closed_area = stands_with_closed_area;
  stands_with_snapshot = stands_with_snapshot;
  stands_where_it_says_the_same = stands_where_it_says_the_same;
  sound_stands_for_the_same = sound_stands_for_the_same;
  stands_for_what_it_keeps = stands_for_what_it_keeps;
  numbers_differ = numbers_differ;
}
