mod Percents
