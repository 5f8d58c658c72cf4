-- `writer::write` meets its contract: the form is the text, which never exceeds what may be counted. Assumes nothing.
use Rattle.writer.proofs.WrittenAnswers.{text_within}
use Rattle.writer.proofs.write.Goals as goal

pub write_form-requires : goal.write_form-requires
write_form-requires c = text_within _ _
