use Rattle.text.specs.TextLaws.{◌then◌}
use Rattle.waits_setting.specs.WaitsSetting.{setting_text}
use Rattle.waits_setting.proofs.put_setting.Goals as goal

pub returns : goal.returns
unfolding setting_text
returns c = let judged = c.put_judged-judged.ensures in
    let opening = c.put_text-to.ensures in
    let closing = judged.puts then c.put_byte.ensures in
    record {
      puts = opening then (c.put_hex-to.ensures then (c.put_text-to-2.ensures then (c.put_decimal-to.ensures then closing)));
      verdict = judged.verdict;
    }
