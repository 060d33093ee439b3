-- The file header by numbers and slices: what a call returns and leaves in the lent buffer.
use Rattle.std.specs.Prelude.{List, cond, not, ℕ, ltb, eqb, length, get_or, Option, Some, None}
use Rattle.rules.specs.Refusals.{refused}
use Rattle.rules_files.specs.FileHeader.{HeaderLeft, write_header}
use Rattle.rules_files.specs.declared.header.LoopPoints.{LoopPoints}
use Rattle.rules_files.specs.declared.header.Stream.{Stream}
use Rattle.refusals.specs.Refusals.{refusal_of}
use Rattle.hca_layout.specs.Layouts.{layout_of, is_layout}

pub record CHeaderLeft : Type 0 where
  pub result : ℕ
  pub header : List ℕ

abbrev pub c_header_left : (result : ℕ) (header : List ℕ) → CHeaderLeft
c_header_left result header = record { result = result; header = header }

-- no points, or start and end; numbers past the second are not looked at
unfoldable pub points_of : (points : List ℕ) → Option LoopPoints
points_of points = cond (ltb (length points) 2) None (Some (record { start = get_or points 0 0; end = get_or points 1 0 }))

-- rate, count, padding; numbers past the third are not looked at
unfoldable pub stream_of : (stream points : List ℕ) → Stream
stream_of stream points = record {
  rate = get_or stream 0 0;
  frames = get_or stream 1 0;
  padding = get_or stream 2 0;
  points = points_of points;
}

unfoldable pub c_header_from : (x : HeaderLeft) → CHeaderLeft
c_header_from x = c_header_left (refusal_of x.outcome).number x.header

-- refusal 1 where no layout is named, 2 where the stream is short or one point stands alone; else the writer
unfoldable pub c_write_header : (numbers kinds stream points header : List ℕ) → CHeaderLeft
c_write_header numbers kinds stream points header =
    cond (not (is_layout numbers kinds)) (c_header_from (record { outcome = refused 1 0; header = header }))
    (cond (ltb (length stream) 3) (c_header_from (record { outcome = refused 2 0; header = header }))
    (cond (eqb (length points) 1) (c_header_from (record { outcome = refused 2 0; header = header }))
    (c_header_from (write_header (layout_of numbers kinds) (stream_of stream points) header))))
