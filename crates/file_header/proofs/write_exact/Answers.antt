-- `file_header::write_exact` meets its contract: zeros, the chunks, the check. Assumes nothing.
use Rattle.file_header.proofs.Headers.{header-sealed}
use borrow.Author.Rules.{rules}
use Rattle.file_header.proofs.write_exact.Goals as goal

pub returns : goal.returns
returns c =
    header-sealed _ _ c.args.header.now _ _ _ (search rules) c.clear.ensures c.put_chunks.ensures c.seal.ensures
