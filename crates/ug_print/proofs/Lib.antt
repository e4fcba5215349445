mod ValueLines
mod NodeLines
mod Widths
