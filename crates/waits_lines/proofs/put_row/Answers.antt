use Rattle.text.specs.TextLaws.{◌then◌, told_whole}
use Rattle.waits_lines.specs.WaitsLinesLaws.{result_length}
use Rattle.waits_lines.proofs.put_row.Goals as goal

-- LEFT Need-slice-aggregate-put-text-2
-- slice_aggregate_put_text_2 : tie.Need-slice-aggregate-put-text-2
-- slice_aggregate_put_text_2 c = sym (length-take-le _ _ (search rules))

pub returns : goal.returns
returns c = let result = told_whole c.put_result-end.ensures (result_length c.args.answer) in
    c.put_text-to.ensures then c.put_text-to-2.ensures then (rw result at c.put_text-to-3.ensures) then c.put_byte.ensures
