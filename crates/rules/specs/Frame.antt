-- Document 01, **Frame** and **Check**: a record's frame as bytes.
use Rattle.std.specs.Prelude.{List, ◌++◌, Bool, ℕ, ◌-◌, ◌*◌, length}
use Rattle.bits.specs.Bits.{pack, zeros}
use Rattle.crc.specs.Sealed.{sealed}
use Rattle.rules.specs.Layout.{frame_size}
use Rattle.rules.specs.Record.{Rec}
use Rattle.rules.specs.Fields.{fields}
use Rattle.rules.specs.declared.Layout.{Layout}

-- bit 8(F - 2)
abbrev pub field_end : (l : Layout) → ℕ
field_end l = 8 * (frame_size l - 2)

-- zero fill to bit 8(F - 2)
unfoldable pub filled_fields : (l : Layout) (r : Rec) → List Bool
filled_fields l r = fields l r ++ zeros (field_end l - length (fields l r))

-- the check over F - 2 bytes behind them, high byte first
unfoldable pub frame_of : (l : Layout) (r : Rec) → List ℕ
frame_of l r = sealed (pack (frame_size l - 2) (filled_fields l r))
