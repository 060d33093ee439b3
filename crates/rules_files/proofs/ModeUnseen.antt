-- The mode (request A9) is in no frame and in no file header: strict reader, record writer and file header do not look at it. Assumes nothing.
use mathlib.Core.Path.{◌≡◌, refl, ap, ◌∙◌}
use mathlib.Core.Bool.{cond, not}
use mathlib.Core.List.{List}
use Prim.Native.Nat.{ℕ}
use lib.ListN.{take}
use Rattle.rules.specs.Layout.{legal_layout, frame_size, has_room, kind_at, kinds_of, secondary_at, bands_per_group, group_count, coded_count_at, side_count_at}
use Rattle.rules.specs.Resolution.{resolution, resolution_at, resolutions_of, band_resolution, channel_resolutions, all_resolutions}
use Rattle.rules.specs.Record.{rec_of, store_factors, store_side, store_codes, legal_channel, legal_channels, legal_record}
use Rattle.rules.specs.Fields.{fields}
use Rattle.rules.specs.Frame.{filled_fields, frame_of}
use Rattle.rules.specs.Reading.{Scanned, accepted, faulty, read_record, read_fields, scan, strict}
use Rattle.rules.specs.Refusals.{refused}
use Rattle.rules.specs.Reader.{ReaderLent, ReaderLeft, reader_has_room, scanned_left, reader_overwrite, reader_kept, read_frame}
use Rattle.rules.specs.Writer.{WriterLent, lent_record, record_written, write_record}
use Rattle.rules.specs.declared.Mode.{Mode}
use Rattle.rules.specs.declared.Layout.{Layout}
use Rattle.rules_files.specs.FileHeader.{pieces, header_of, fits_header, write_header}
use Rattle.rules_files.specs.declared.header.Stream.{Stream}

-- the same layout in another mode
abbrev pub moded : (l : Layout) (mode : Mode) → Layout
moded l mode = record {
  channels = l.channels;
  kinds = l.kinds;
  base = l.base;
  stereo = l.stereo;
  total = l.total;
  frame_size = l.frame_size;
  minimum = l.minimum;
  maximum = l.maximum;
  mode = mode;
}

module _ (l : Layout) (mode : Mode) where
  same-strict : (f : List ℕ) → strict (moded l mode) f ≡ strict l f
  unfolding strict scan read_fields read_record kinds_of kind_at group_count bands_per_group resolutions_of resolution_at resolution
  same-strict f = refl

  same_left : (s : Scanned) → scanned_left (moded l mode) s ≡ scanned_left l s
  unfolding scanned_left store_factors store_side store_codes
  same_left (accepted r n) = refl
  same_left (faulty n b) = refl

  read_unseen : (u : ReaderLent) → read_frame (moded l mode) u ≡ read_frame l u
  unfolding read_frame legal_layout has_room
  read_unseen u =
      let f : List ℕ = take (frame_size l) u.frame in
      ap (λ (x : ReaderLeft). cond (not (legal_layout l)) (reader_kept u (refused 1 0))
      (cond (not (reader_has_room l u)) (reader_kept u (refused 2 0)) (reader_overwrite u x)))
      (ap (scanned_left (moded l mode)) (same-strict f) ∙ same_left (strict l f))

  written_unseen : (w : WriterLent) → write_record (moded l mode) w ≡ write_record l w
  unfolding write_record record_written legal_layout has_room lent_record rec_of fields filled_fields frame_of legal_record legal_channels legal_channel all_resolutions
      channel_resolutions band_resolution resolutions_of resolution_at resolution kinds_of kind_at secondary_at coded_count_at side_count_at group_count bands_per_group
  written_unseen w = refl

  header_unseen : (st : Stream) (h : List ℕ) → write_header (moded l mode) st h ≡ write_header l st h
  unfolding write_header legal_layout fits_header header_of pieces group_count bands_per_group
  header_unseen st h = refl

  -- Layouts that differ in the mode alone: what is read, what is written and the file header are the same.
  pub mode_unseen : ((u : ReaderLent) → read_frame (moded l mode) u ≡ read_frame l u) × ((w : WriterLent) → write_record (moded l mode) w ≡ write_record l w)
      × ((st : Stream) (h : List ℕ) → write_header (moded l mode) st h ≡ write_header l st h)
  mode_unseen = (read_unseen, written_unseen, header_unseen)
