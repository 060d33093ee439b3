-- `read_channel` is `read_channel`: the counts and the width are the layout's. Assumes nothing.
use Rattle.std.proofs.lemmas.Result.{err_from_is_err_and}
use Rattle.reader_channels.proofs.HeaderChannels.{channel_cut, channel_stored}
use Rattle.reader_channels.proofs.read_channel.Goals as goal

pub returns-in_err-next : goal.returns-in_err-next
returns-in_err-next c =
    let a = c.args in
    let p = err_from_is_err_and c.from_residual.result c.from_residual.ensures.1 in
    rw (p.1, p.2) (channel_cut a.layout a.channel a.part.now a.place.at c.coded_count-coded.ensures.0 c.read_width.ensures c.in_err-next.was)

pub returns : goal.returns
returns c =
    let a = c.args in
    channel_stored a.layout a.channel a.part.now a.place.at c.coded_count-coded.ensures.0 c.read_width.ensures c.in_ok-next.was
    c.side_count-count.ensures.0 c.side_width-width.ensures.0 c.read_side.result c.read_side.ensures
