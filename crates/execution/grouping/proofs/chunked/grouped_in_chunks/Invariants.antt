use Rattle.selections.specs.RowChunks.{chunks_to_come}
use Rattle.grouping.proofs.chunked.grouped_in_chunks.Given as goal

abbrev pub ghost-totals_of : goal.ghost-totals_of
ghost-totals_of a = chunks_to_come a.chunks

abbrev pub ghost-table_of : goal.ghost-table_of
ghost-table_of a = chunks_to_come a.chunks
