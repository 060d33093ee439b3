-- `file_header::reading::read_file_header` meets its contract. Assumes nothing.
use mathlib.Core.Path.{ap, ◌∙◌}
use Rattle.rules_files.specs.HeaderReading.{exact_read}
use Rattle.rules_files.specs.HeaderReadFits.{ReadFits}
use Rattle.file_header.proofs.Readings.{read_short, read_long}
use Rattle.file_header.proofs.reading.read_file_header.Goals as goal

pub returns-in_default : goal.returns-in_default
unfolding ReadFits
returns-in_default c = (read_short _ c.in_default.ensures.cases, tt)

pub returns : goal.returns
returns c =
    let first = c.in-Some.ensures.cases in
    (c.read_exact.ensures.0 ∙ ap exact_read first.same ∙ read_long _ first.enough, c.read_exact.ensures.1)
