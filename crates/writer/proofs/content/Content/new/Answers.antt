-- `writer::content::Content::new` meets its contract.
use Rattle.writer.proofs.Lining.{content_is}
use Rattle.writer.proofs.content.Content.new.Goals as goal

pub returns : goal.returns
returns c =
    let a = c.args in
    content_is a.address a.control a.information.now c.check_word_of.ensures c.check_word_of.type_inv c.to_le_bytes-check.ensures
